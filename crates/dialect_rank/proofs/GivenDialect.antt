-- A candidate whose bytes are given stands alone.
use Rattle.std.proofs.Common.{◌≡◌, ℕ, cond, true, refl, sym, ap, ◌∙◌, List, [], ◌∷◌, get_or, map, Option, Some, None, subst}
use Rattle.std.specs.Prelude.{All, filter}
use Rattle.std.proofs.lemmas.List.Elements.{All-nil, All-append, All-map, All-filter, filter_passes}
use Rattle.std.proofs.lemmas.List.Concat.{flat_map-cons}
use Rattle.byte_classes.specs.Dialect.{Marks}
use Rattle.load_options.specs.declared.options.Options.{Options}
use Rattle.dialect_rank.specs.Candidates.{delims, Quoting, quotings, with_delim, is_dialect, first_ones, candidates_of, choice_of, with_dialect}
use Rattle.dialect_rank.proofs.CandidateLaws.{combined, faultless, first_ones-all}

abbrev marks : ℕ → Option ℕ → Option ℕ → Option ℕ → Marks
marks delim quote escape comment = record { delim = delim; quote = quote; escape = escape; comment = comment }

-- one that is tried alone is left
left : (d : Marks) → is_dialect d ≡ true → first_ones [] (filter is_dialect (d ∷ [])) ≡ d ∷ []
left d h = ap (λ t. first_ones [] (cond t (d ∷ []) [])) h

alone : (delim : ℕ) (quote escape comment : Option ℕ) → is_dialect (marks delim quote escape comment) ≡ true →
    first_ones [] (filter is_dialect (combined comment (quotings (choice_of quote) (choice_of escape)) (delim ∷ []))) ≡ marks delim quote escape comment ∷ []
alone delim None None comment h = left (marks delim None None comment) h
alone delim None (Some e) comment h = absurd (let broken = (faultless (marks delim None (Some e) comment) h).2 in let no : ⊥ = cc in no)
alone delim (Some q) None comment h = left (marks delim (Some q) None comment) h
alone delim (Some q) (Some e) comment h = left (marks delim (Some q) (Some e) comment) h

-- all candidates have the given comment byte
commented : (comment : Option ℕ) (qs : List Quoting) (ds : List ℕ) → All (λ d. d.comment ≡ comment) (combined comment qs ds)
commented comment qs [] = All-nil (λ (d : Marks). d.comment ≡ comment)
commented comment qs (d ∷ ds) =
    subst (All (λ (d : Marks). d.comment ≡ comment)) (sym (flat_map-cons (λ delim. map (with_delim comment delim) qs) d ds))
    (All-append (λ (d : Marks). d.comment ≡ comment) (map (with_delim comment d) qs) (combined comment qs ds)
    (All-map (λ (d : Marks). d.comment ≡ comment) (with_delim comment d) qs (λ j q lt. refl)) (commented comment qs ds))

pub given_comment : (o : Options) → All (λ d. d.comment ≡ o.comment) (candidates_of o)
given_comment o =
    let all : List Marks = combined o.comment (quotings o.quote o.escape) (delims o.delim) in
    first_ones-all (λ (d : Marks). d.comment ≡ o.comment) [] (filter is_dialect all)
    (All-filter is_dialect (λ (d : Marks). d.comment ≡ o.comment) all (commented o.comment (quotings o.quote o.escape) (delims o.delim)))

pub given_stands_alone : (o : Options) → All (λ d. candidates_of (with_dialect o d) ≡ d ∷ []) (candidates_of o)
given_stands_alone o =
    let all : List Marks = combined o.comment (quotings o.quote o.escape) (delims o.delim) in
    first_ones-all (λ d. candidates_of (with_dialect o d) ≡ d ∷ []) [] (filter is_dialect all)
    (λ k d lt. let m : Marks = get_or (filter is_dialect all) k d in
    let comment : m.comment ≡ o.comment = All-filter is_dialect (λ (n : Marks). n.comment ≡ o.comment) all (commented o.comment (quotings o.quote o.escape) (delims o.delim)) k d lt in
    ap (λ c. first_ones [] (filter is_dialect (combined c (quotings (choice_of m.quote) (choice_of m.escape)) (m.delim ∷ [])))) (sym comment)
    ∙ alone m.delim m.quote m.escape m.comment (filter_passes is_dialect all k d lt))
