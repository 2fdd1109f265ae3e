use Rattle.std.proofs.Common.{◌≡◌, ℕ, true, List, [], ◌∷◌, length, refl, sym, arith}
use Rattle.csv_source.specs.Lists.{is_empty}
use Rattle.csv_sniffer.proofs.NamedTypes.{none_given}
use Rattle.csv_sniffer.proofs.named_types.types_by_name.Goals as goal

no_names : (names : List (List ℕ)) → length names ≡ 0 → is_empty names ≡ true
no_names [] h = refl
no_names (name ∷ names) h = absurd (let no : ⊥ = omega (arith, h) in no)

pub returns-then-len-eq0 : goal.returns-then-len-eq0
returns-then-len-eq0 c =
    let given = c.args.given.now in
    let none : length given.names ≡ 0 = let test = c.if-len-eq0.true in let many = c.len.ensures in omega (arith, test, many) in
    sym (none_given given c.args.names.now c.args.found (no_names given.names none))
