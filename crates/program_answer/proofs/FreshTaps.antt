-- The program's taps have seen nothing.
use Rattle.std.proofs.Common.{◌≡◌, ◌<◌, List, [], ◌∷◌, map, length, refl, sym, subst, arith}
use Rattle.std.specs.Prelude.{All}
use Rattle.std.proofs.lemmas.List.{length-map, get_or-map}
use Rattle.std.proofs.lemmas.List.Elements.{All-nil, All-cons}
use Rattle.column_taps.specs.declared.kind.TapKind.TheVariants.{Count, Span, Width, Distinct}
use Rattle.column_taps.specs.Seen.{Seen, nothing_seen, IsFresh}
use Rattle.program_answer.specs.ProgramTaps.{program_taps}

program_fresh : All IsFresh program_taps
program_fresh =
    All-cons IsFresh (nothing_seen Count) (nothing_seen Span ∷ nothing_seen Width ∷ nothing_seen (Distinct 1000) ∷ []) refl
    (All-cons IsFresh (nothing_seen Span) (nothing_seen Width ∷ nothing_seen (Distinct 1000) ∷ []) refl
    (All-cons IsFresh (nothing_seen Width) (nothing_seen (Distinct 1000) ∷ []) refl (All-cons IsFresh (nothing_seen (Distinct 1000)) [] refl (All-nil IsFresh))))

pub all_fresh : {T : Type 0} (seen : T → Seen) (taps : List T) → map seen taps ≡ program_taps → All (λ tap. IsFresh (seen tap)) taps
all_fresh seen taps order k d within =
    let there : k < length (map seen taps) = omega (arith, length-map taps seen, within) in
    let fresh : All IsFresh (map seen taps) = subst (All IsFresh) (sym order) program_fresh in
    subst IsFresh (get_or-map seen taps k d (seen d) within) (fresh k (seen d) there)
