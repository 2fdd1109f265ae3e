-- Another delimiter under which rows would have several fields (this loader's profile).
use Rattle.std.specs.Prelude.{ℕ, ◌==◌, ◌&&◌, ◌||◌, not, nat_le, Bool, if◌then◌else◌, List, Option, None, option_map}
use Rattle.std.specs.List.{find, list_all}
use Rattle.std.specs.Option.{is_none}
use Rattle.load_options.specs.declared.options.Options.{Options}
use Rattle.dialect_rank.specs.declared.scored.Scored.{Scored}
use Rattle.dialect_rank.specs.declared.scores.Score.{Score}

-- whether rows mostly have several fields under a candidate whose delimiter is another one
abbrev pub cuts_more : ℕ → Scored → Bool
cuts_more delim c = not (c.dialect.delim == delim) && nat_le 2 c.score.mode

-- whether a candidate is no such one, or rows agree on it no more than on another
abbrev pub agrees_no_more : ℕ → Scored → Scored → Bool
agrees_no_more delim c other = not (cuts_more delim c) || nat_le c.score.agree other.score.agree

-- whether a candidate is such a one, and rows agree on none more than on it
abbrev pub agrees_most : ℕ → List Scored → Scored → Bool
agrees_most delim scored c = cuts_more delim c && list_all (λ other. agrees_no_more delim other c) scored

-- the delimiter of the first such candidate
abbrev pub delim_among : ℕ → List Scored → Option ℕ
delim_among delim scored = option_map (λ (c : Scored). c.dialect.delim) (find (agrees_most delim scored) scored)

-- whether another delimiter may be worth a hint
abbrev pub may_hint : Options → Score → Bool
may_hint o best = is_none o.delim && (best.mode == 1)

-- the delimiter that would cut more, where none is given, and under the best dialect most rows have one field
abbrev pub other_delim : Options → ℕ → Score → List Scored → Option ℕ
other_delim o delim best scored = if may_hint o best then delim_among delim scored else None
