use Rattle.std.proofs.Common.{◌≡◌, ℕ, ◌<◌, ◌&&◌, List, map, length, Option, Some, None, Ok, Err, sym, ◌∙◌, ap, subst, arith}
use Rattle.std.specs.Prelude.{IfOk, Result}
use Rattle.std.specs.List.{list_all}
use Rattle.std.specs.Option.{is_some}
use Rattle.std.proofs.lemmas.List.{length-map}
use Rattle.std.proofs.lemmas.Bool.{le-leb}
use Rattle.csv_source.specs.declared.bytes.NoMemory.{NoMemory}
use Rattle.value_types.specs.TypeName.{type_named}
use Rattle.load_options.specs.declared.limits.TheConstants.{COLUMN_TYPES_LIMIT}
use Rattle.load_options.specs.declared.reason.Reason.{Reason}
use Rattle.load_options.specs.declared.reason.Reason.TheVariants.{TooMany, Empty, Twice, NoType, Other}
use Rattle.load_options.specs.ColumnTypes.{are_typed_columns, pair_name}
use Rattle.load_options.specs.Reasons.{Explains, SaysOfNames, SaysOfPairs}
use Rattle.load_options.specs.Texts.{are_names}
use Rattle.load_options.proofs.column_types.pairs_reason.Goals as goal

-- what is said of names is said of pairs that have them
of_pairs : (pairs : List (List ℕ)) (reason : Reason) → SaysOfNames (map pair_name pairs) reason → SaysOfPairs pairs reason
of_pairs pairs (TooMany most) h = subst (λ (n : ℕ). most < n) (length-map pairs pair_name) h
of_pairs pairs (Empty place) h = h
of_pairs pairs (Twice place) h = h
of_pairs pairs (NoType place) h = absurd (let no : ⊥ = cc in no)
of_pairs pairs Other h = h

explained : (pairs : List (List ℕ)) (reason : Option Reason) → are_typed_columns pairs ≡ are_names (map pair_name pairs) → Explains reason (are_names (map pair_name pairs)) (SaysOfNames (map pair_name pairs)) →
    Explains reason (are_typed_columns pairs) (SaysOfPairs pairs)
explained pairs None e h = e ∙ h
explained pairs (Some reason) e h = (e ∙ h.0, of_pairs pairs reason h.1)

if_ok : (pairs : List (List ℕ)) (result : Result (Option Reason) NoMemory) → are_typed_columns pairs ≡ are_names (map pair_name pairs) →
    IfOk result (λ reason. Explains reason (are_names (map pair_name pairs)) (SaysOfNames (map pair_name pairs))) → IfOk result (λ reason. Explains reason (are_typed_columns pairs) (SaysOfPairs pairs))
if_ok pairs (Ok reason) e h = explained pairs reason e h
if_ok pairs (Err stop) e h = tt

pub returns : goal.returns
returns c =
    let pairs = c.args.pairs.now in
    let few = le-leb (length pairs) COLUMN_TYPES_LIMIT (omega (arith, c.len.ensures, c.if-len-gt-COLUMN_TYPES_LIMIT.false)) in
    let typed = sym (ap (list_all (λ name. is_some (type_named name))) c.in_ok-names.ensures.1) ∙ c.in-None.ensures in
    if_ok pairs _ (λ i. few i && typed i && are_names (map pair_name pairs))
    (subst (λ names. IfOk c.names_reason.result (λ reason. Explains reason (are_names names) (SaysOfNames names))) c.in_ok-names.ensures.0 c.names_reason.ensures)
