use Rattle.std.proofs.Common.{◌≡◌, ℕ, ◌+◌, true, List, [], ◌∷◌, ◌++◌, map, drop, reverse, length, sym, ◌∙◌, ap, length-append}
use Rattle.std.specs.Str.{bytes_eq}
use Rattle.std.proofs.lemmas.Bool.{or_right}
use Rattle.std.proofs.lemmas.List.{length-reverse}
use Rattle.load_options.specs.Texts.{is_among}
use Rattle.csv_sniffer.specs.ColumnNames.{first_free, is_key}
use Rattle.csv_sniffer.proofs.NameSteps.{first_free-agree, reversed}
use Rattle.db_writer.specs.Naming.{folded, is_same_name, is_taken, names_apart}
use Rattle.db_writer.proofs.NamesApart.{next_key, next_name, still_taken}
use Rattle.db_writer.proofs.RowsLaid.{drop-at}
use Rattle.db_writer.proofs.naming.names_apart.Goals as goal

pub loop-column-preserved : goal.loop-column-preserved
loop-column-preserved c =
    let column = c.loop-column.column in
    let names : List (List ℕ) = c.loop-column.made in
    let more : List (List ℕ) = c.push.new.self in
    let keys = c.loop-column.taken.keys in
    let before = c.loop-column.invariant in
    let name : List ℕ = c.in_ok-name.name.items in
    let wanted : List ℕ = c.in_ok-wanted.wanted.items in
    let later : List (List ℕ) = drop (column + 1) c.args.names.now in
    let long : column ≡ length (reverse names) = sym before.count ∙ sym (length-reverse names) in
    let is : name ≡ first_free (is_same_name (reverse names)) (length (reverse names)) wanted =
    c.in_ok-name.ensures.value
    ∙ first_free-agree (is_taken keys (λ key. key.items)) (is_same_name (reverse names)) column (length (reverse names)) wanted (λ x. before.keys (folded x)) long in
    let grown : more ≡ names ++ name ∷ [] = c.in_ok-push.ensures.ok ∙ ap (λ n. names ++ n ∷ []) c.deref-in-loop-column.ensures.value in
    let here : drop column c.args.names.now ≡ wanted ∷ later =
    drop-at c.args.names.now column c.get.result.now c.get.ensures ∙ ap (λ w. w ∷ later) (sym (c.in_ok-wanted.ensures.items_if_clones_equal (λ x y same. same))) in
    let key = c.in_ok-folded.field-0 in
    let key_is : key.items ≡ folded name = c.in_ok-folded.ensures ∙ ap folded c.deref.ensures.value in
    let same = next_key (λ key. key.items) c.in_ok-insert.field-0 keys c.insert.new.self.keys key (map folded (reverse names)) c.in_ok-insert.ensures.added c.in_ok-insert.ensures.keys before.keys in
    let stays = λ (x : List ℕ) (h : is_key keys (λ key. key.items) x ≡ true).
    same x ∙ or_right (bytes_eq x key.items) (is_among (map folded (reverse names)) x) (sym (before.keys x) ∙ h) in record {
      names = next_name names more name wanted later _ grown is (sym (ap (λ ws. names ++ names_apart (reverse names) ws) here) ∙ before.names);
      keys =
          λ x. same x
          ∙ ap (λ k. is_among (k ∷ map folded (reverse names)) x) key_is ∙ ap (λ ns. is_among (map folded ns) x) (sym (reversed names more name grown));
      noted = still_taken (λ key. key.items) keys c.insert.new.self.keys c.first_free.new.numbers.entries stays c.in_ok-name.ensures.numbers;
      count = ap length grown ∙ length-append names (name ∷ []) ∙ ap (λ n. n + 1) before.count;
    }
