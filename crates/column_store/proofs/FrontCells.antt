-- The cell of a value whose plain form stands at a front, in its column.
use Rattle.std.proofs.Common.{◌≡◌, ◌∙◌, List, [], ◌∷◌, ◌++◌, map, sym, ap, Option, Some}
use Rattle.std.specs.Option.{option_map, option_to_list}
use Rattle.std.proofs.lemmas.List.{map_push}
use Rattle.value_types.specs.declared.types.Value.{Value}
use Rattle.value_types.specs.Datum.{typed}
use Rattle.column_store.specs.Nullable.{datum_by}

pub front_pushed : {A : Type 0} (make : A → Value) (old new : List (Option A)) (n : A) (read : Option A) → read ≡ Some n → new ≡ old ++ Some n ∷ [] →
    map (datum_by (λ d. typed (make d))) new ≡ map (datum_by (λ d. typed (make d))) old ++ option_to_list (option_map typed (option_map make read))
front_pushed make old new n read is pushed =
    ap (map (datum_by (λ d. typed (make d)))) pushed ∙ map_push (datum_by (λ d. typed (make d))) old (Some n)
    ∙ (λ i. map (datum_by (λ d. typed (make d))) old ++ option_to_list (option_map typed (option_map make (sym is i))))
