use Rattle.std.proofs.Common.{◌≡◌, ℕ, suc, ◌+◌, ◌-◌, ◌^◌, ◌<◌, true, false, not, cond, List, [], ◌∷◌, ◌++◌, Option, map, reverse, length, sym, ◌∙◌, ap, arith, append-nil, length-append}
use Rattle.std.specs.List.{range_with_len}
use Rattle.std.specs.Option.{option_copied}
use Rattle.std.specs.Str.{bytes_eq}
use Rattle.std.proofs.lemmas.Bool.{or_right}
use Rattle.std.proofs.lemmas.List.{length-reverse}
use Rattle.load_options.specs.Texts.{is_among}
use Rattle.csv_sniffer.specs.ColumnNames.{is_key, wanted_name, free_name, made_different}
use Rattle.csv_sniffer.proofs.NameLaws.{free_name_is_free}
use Rattle.csv_sniffer.proofs.NameSteps.{first_free-agree, reversed, next_name, next_key, still_taken}
use Rattle.csv_sniffer.proofs.detected_names.names_by.Goals as goal

pub returns : goal.returns
returns c = λ d split.
    let names = c.loop-column.names in
    let row : Option (List ℕ) = option_copied c.args.row in
    let done : c.args.columns - c.loop-column.column ≡ 0 = omega (arith, c.loop-column-test.false) in
    sym (append-nil names) ∙ ap (λ n. names ++ made_different (reverse names) (map (wanted_name d row) (range_with_len c.loop-column.column n))) (sym done)
    ∙ c.loop-column.invariant.names d split

pub loop-column-preserved : goal.loop-column-preserved
loop-column-preserved c =
    let row : Option (List ℕ) = option_copied c.args.row in
    let columns = c.args.columns in
    let column = c.loop-column.column in
    let names = c.loop-column.names in
    let more = c.push.new.self in
    let keys = c.loop-column.taken.keys in
    let before = c.loop-column.invariant in
    let name = c.in_ok-name.name.items in
    let wanted : List ℕ = c.in_ok-wanted.wanted.items in
    let long : length keys ≡ length (reverse names) = before.count ∙ sym (length-reverse names) in
    let is : name ≡ free_name (reverse names) wanted =
    c.in_ok-name.ensures.value
    ∙ first_free-agree (is_key keys (λ key. key.items)) (is_among (reverse names)) (length keys) (length (reverse names)) wanted before.keys long in
    let grown : more ≡ names ++ name ∷ [] = c.in_ok-push.ensures.ok ∙ ap (λ n. names ++ n ∷ []) c.deref.ensures.value in
    let few : length (reverse names) < 2 ^ 63 = omega (arith, length-reverse names, before.column, c.requires.few, c.loop-column-test.true) in
    let free : is_key keys (λ key. key.items) name ≡ false = before.keys name ∙ ap (is_among (reverse names)) is ∙ free_name_is_free (reverse names) wanted few in
    let added : c.in_ok-insert.field-0 ≡ true = c.in_ok-insert.ensures.added ∙ ap not free in
    let longer : length more ≡ length names + 1 = ap length grown ∙ length-append names (name ∷ []) in
    let new = c.insert.new.self.keys in
    let same = next_key (λ key. key.items) c.in_ok-insert.field-0 keys new c.in_ok-name.name (reverse names) (reverse more) added c.in_ok-insert.ensures.keys (reversed names more name grown) before.keys in
    let more_keys : length new ≡ length keys + 1 = c.in_ok-insert.ensures.len ∙ ap (λ t. length keys + cond {A = ℕ} t 1 0) added in
    let stays = λ (x : List ℕ) (h : is_key keys (λ key. key.items) x ≡ true).
    same x ∙ ap (λ ns. is_among ns x) (reversed names more name grown) ∙ or_right (bytes_eq x name) (is_among (reverse names) x) (sym (before.keys x) ∙ h) in record {
      names = λ d split.
          let later : List (List ℕ) = map (wanted_name d row) (range_with_len (column + 1) (columns - (column + 1))) in
          let here = ap (λ n. names ++ made_different (reverse names) (map (wanted_name d row) (range_with_len column n)))
          (let left : columns - column ≡ suc (columns - (column + 1)) = omega (arith, c.loop-column-test.true) in left) in
          next_name names more name (wanted_name d row column) later _ grown (is ∙ ap (free_name (reverse names)) (c.in_ok-wanted.ensures d split)) (sym here ∙ before.names d split);
      keys = same;
      noted = still_taken (λ key. key.items) keys new c.first_free.new.numbers.entries (omega (arith, more_keys)) stays c.in_ok-name.ensures.numbers;
      count = more_keys ∙ ap (λ n. n + 1) before.count ∙ sym longer;
      column = longer ∙ ap (λ n. n + 1) before.column;
    }
