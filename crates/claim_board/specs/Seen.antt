-- A board and a drawer as contracts see them.
use Rattle.std.specs.Prelude.{ℕ, Bool, false, List, [], refl}
use Rattle.std.specs.Coded.{Coded, code_by, coded×, coded_ℕ, coded_bool, coded_list}
use Rattle.atomic_table.specs.Seated.{TableId, table_id_coded}

-- which board it is, and how many numbers it has
pub record BoardSeen : Type 0 where
  pub table : TableId
  pub count : ℕ

-- a board's value is plain data
abbrev pub board_code : Coded BoardSeen
board_code = code_by (TableId × ℕ) (coded× table_id_coded coded_ℕ) (λ b. (b.table, b.count)) (λ p. record { table = p.0; count = p.1 }) (λ _. refl)

-- what a drawer knows: its board, its own number among the drawers, what it drew in order, how often it may split, whether it is done, and how many steps it took
pub record DrawerSeen : Type 0 where
  pub board : BoardSeen
  pub number : ℕ
  pub drawn : List ℕ
  pub splits : ℕ
  pub done : Bool
  pub steps : ℕ

-- a drawer's value is plain data
abbrev pub drawer_code : Coded DrawerSeen
drawer_code = code_by (BoardSeen × (ℕ × (List ℕ × (ℕ × (Bool × ℕ))))) (coded× board_code (coded× coded_ℕ (coded× (coded_list coded_ℕ) (coded× coded_ℕ (coded× coded_bool coded_ℕ)))))
    (λ d. (d.board, (d.number, (d.drawn, (d.splits, (d.done, d.steps)))))) (λ p. record { board = p.0; number = p.1.0; drawn = p.1.1.0; splits = p.1.1.1.0; done = p.1.1.1.1.0; steps = p.1.1.1.1.1 }) (λ _. refl)

-- a drawer that has drawn nothing and taken no step
abbrev pub new_drawer : BoardSeen → ℕ → ℕ → DrawerSeen
new_drawer b number splits = record { board = b; number = number; drawn = []; splits = splits; done = false; steps = 0 }
