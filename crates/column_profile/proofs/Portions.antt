-- Rows that are taken in in portions.
use Rattle.std.proofs.Common.{[], ◌++◌, ap, sym, ◌∙◌, refl, append_assoc}
use Rattle.column_profile.specs.Laws.{PortionsCompose, PortionsMakeAll}
use Rattle.column_profile.specs.Profile.{profile_of}

pub portions_compose : PortionsCompose
portions_compose first middle last xs ys here there = record {
  types = there.types ∙ here.types;
  profile =
      λ rows is.
      there.profile (rows ++ xs) (here.profile rows is ∙ ap (λ tys. profile_of tys (rows ++ xs)) (sym here.types))
      ∙ ap (λ tys. profile_of tys ((rows ++ xs) ++ ys)) here.types
      ∙ ap (profile_of first.types) (append_assoc rows xs ys);
}

pub portions_all : PortionsMakeAll
portions_all tys middle last xs ys here there = (portions_compose (profile_of tys []) middle last xs ys here there).profile [] refl
