-- Rounds are joined one after another, whatever the data go on with.
use Rattle.std.proofs.Common.{◌≡◌, ℕ, zero, suc, ◌+◌, ◌-◌, ◌*◌, ◌^◌, ◌<◌, ◌≤◌, true, List, [], ◌++◌, length, refl, sym, ap, ◌∙◌, subst, arith, append_assoc, length-append}
use Rattle.std.specs.Prelude.{Option}
use Rattle.std.specs.Io.KnownBytes.{IsAtEnd}
use Rattle.std.proofs.Math.Nat.{mul-le-mul_left}
use Rattle.std.proofs.lemmas.List.{append-nil}
use Rattle.quote_automaton.specs.declared.state.State.TheVariants.{RowStart}
use Rattle.range_scan.specs.declared.context.Context.{Context}
use Rattle.range_scan.specs.declared.joined.Joined.{Joined}
use Rattle.range_scan.specs.Joined.{IsBegun}
use Rattle.range_scan.specs.Ranges.{IsJoinedTo}
use Rattle.window_load.specs.DataRead.{data_read}
use Rattle.window_load.specs.Window.{WindowView, reach, IsFilled}
use Rattle.pipe_load.specs.declared.layout.Layout.{Layout}
use Rattle.pipe_load.specs.declared.reader.Reader.{Reader}
use Rattle.pipe_load.specs.declared.window.Window.{Window}
use Rattle.pipe_load.specs.Joining.{AddsRanges, AddsWindows, ranges_before}
use Rattle.pipe_load.specs.Layout.{IsLayout, stride, lead, want, stretch_len, turned}
use Rattle.pipe_load.specs.Loading.{AddsRound, IsAllRead}
use Rattle.pipe_load.specs.PassViews.{IsOneOf}
use Rattle.pipe_load.specs.Reading.{Fills, HasCut, IsStarted}
use Rattle.pipe_load.proofs.CuttingLaws.{some_stride, first_cut, stays, turn_on, all_ended, all_covered}
use Rattle.pipe_load.proofs.LoadLaws.{one_is, begins_before, next_window, first_window, next_round, last_window, all_read}

-- ---- the windows of a round

pub adds_none : (context : Context) (l : Layout) (made : List Window) (count : ℕ) (old : Joined) → old.table.types ≡ context.schema.types → old.book.keep ≡ context.keep → AddsWindows context l made count 0 old old
adds_none context l made count old types keep = record {
  types = types;
  keep = keep;
  joins = λ text is begins h. h;
}

pub adds_window : (context : Context) (l : Layout) (made : List Window) (count n : ℕ) (w : Window) (old mid new : Joined) → IsLayout l → l.reach ≡ context.schema.max_line_size + 1 → IsOneOf made w → w.number ≡ n → n < count →
    AddsWindows context l made count n old mid → AddsRanges context l w (stretch_len l w) mid new → AddsWindows context l made count (n + 1) old new
adds_window context l made count n w old mid new layout reach one number lt h adds = record {
  types = adds.types;
  keep = adds.keep;
  joins = λ text is begins first. next_window context l layout text n w mid new (one_is l text made count n w is one number) (begins n lt) reach adds (h.joins text is begins first);
}

-- ---- rounds

-- once the first window is in hand
pub started_cut : (l : Layout) → IsLayout l → (before after : Option (List ℕ)) (head : WindowView) (start new : Reader) → l.before ≡ 0 → IsStarted head l start → (fills : Fills before after start new) →
    IsFilled (want start.layout start.number) new.window → (new.window.ended ≡ true → IsAtEnd after) → HasCut l head before after [] fills.moved.0 0 new.window
started_cut l layout before after head start new first started fills filled at_end =
    first_cut l layout before after head new.window fills.moved.0 first fills.moved.2 (fills.moved.1 ∙ ap (λ (v : WindowView). v.kept ++ fills.moved.0) started.held)
    (fills.base ∙ ap (λ (v : WindowView). v.base) started.held) (fills.most ∙ ap (λ (v : WindowView). v.most) started.held)
    (λ e. fills.stays (ap (λ (v : WindowView). v.ended) started.held ∙ e) ∙ started.held)
    (subst (λ (x : Layout). IsFilled (want x 0) new.window) started.layout (subst (λ n. IsFilled (want start.layout n) new.window) started.number filled)) at_end

-- whatever the data go on with, the windows before a round's window n are joined
abbrev pub JoinedOn : Context → Layout → List ℕ → ℕ → WindowView → Joined → Type 0
JoinedOn context l text n window counted = (more : List ℕ) → (window.ended ≡ true → more ≡ []) → IsJoinedTo context (text ++ more) l.data_start l.range_size (ranges_before l (text ++ more) n) counted

-- the data are cut and joined up to a window of a round
pub record IsUpTo (context : Context) (l : Layout) (head : WindowView) (before after : Option (List ℕ)) (n : ℕ) (window : WindowView) (counted : Joined) : Type 0 where
  pub made : List Window
  pub read : List ℕ
  pub cut : HasCut l head before after made read n window
  pub joined : JoinedOn context l (head.kept ++ read) n window counted

-- up to the start of a round: no window of it is cut
pub record IsUpToRound (context : Context) (l : Layout) (head : WindowView) (before after : Option (List ℕ)) (window : WindowView) (counted : Joined) : Type 0 where
  pub read : List ℕ
  pub cut : HasCut l head before after [] read 0 window
  pub joined : JoinedOn context l (head.kept ++ read) 0 window counted

module _ (context : Context) (l : Layout) (layout : IsLayout l) (head : WindowView) (before : Option (List ℕ)) where
  pub first_round : (after : Option (List ℕ)) (read : List ℕ) (window : WindowView) (counted : Joined) → l.before ≡ 0 → HasCut l head before after [] read 0 window → IsBegun context RowStart counted →
      IsUpToRound context l head before after window counted
  first_round after read window counted first cut begun = record {
    read = read;
    cut = cut;
    joined = λ more may. first_window context l layout ((head.kept ++ read) ++ more) counted first begun;
  }

  -- a round is joined
  pub round_on : (mid after : Option (List ℕ)) (n : ℕ) (held left : WindowView) (more : List ℕ) (old new : Joined) → IsUpToRound context l head before mid held old → AddsRound context l mid after n held left more old new → IsUpTo context l head before after n left new
  round_on mid after n held left more old new h round =
      let cut : HasCut l head before after round.made (h.read ++ more) n left = round.cuts.cut head before h.read h.cut in record {
        made = round.made;
        read = h.read ++ more;
        cut = cut;
        joined = λ rest may.
            let text : List ℕ = (head.kept ++ (h.read ++ more)) ++ rest in
            let same : (head.kept ++ h.read) ++ (more ++ rest) ≡ text =
            sym (append_assoc (head.kept ++ h.read) more rest) ∙ ap (λ t. t ++ rest) (append_assoc head.kept h.read more) in
            let nothing : held.ended ≡ true → more ++ rest ≡ [] = (λ e. let was = round.cuts.stays e in ap (λ m. m ++ rest) was.0 ∙ may was.1) in
            let was : IsJoinedTo context text l.data_start l.range_size (ranges_before l text 0) old =
            subst (λ (t : List ℕ). IsJoinedTo context t l.data_start l.range_size (ranges_before l t 0) old) same (h.joined (more ++ rest) nothing) in
            round.adds.joins text (cut.windows ∙ sym (stays l layout head before after round.made (h.read ++ more) n left cut rest may))
            (λ k lt. begins_before (stride l) l.before n k (length text) lt (λ p. let b = cut.begun p in omega (arith, b, length-append (head.kept ++ (h.read ++ more)) rest)))
            was;
      }

  -- before the next one
  pub turned_on : (after : Option (List ℕ)) (n : ℕ) (window : WindowView) (counted : Joined) → IsUpTo context l head before after n window counted → IsUpToRound context (turned l n) head before after window counted
  turned_on after n window counted h = record {
    read = h.read;
    cut = turn_on l layout head before after h.made h.read n window h.cut;
    joined = λ more may. next_round context l layout ((head.kept ++ h.read) ++ more) n counted (h.joined more may);
  }

  -- there are no more windows than bytes
  pub few_before : (after : Option (List ℕ)) (n : ℕ) (window : WindowView) (counted : Joined) → IsUpTo context l head before after n window counted → head.most ≤ 2 ^ 32 → l.before + n ≤ 2 ^ 32
  few_before after n window counted h most = by_place (l.before + n) refl
    where
      few : length (head.kept ++ h.read) ≤ 2 ^ 32
      few = let within = h.cut.filled.1 in omega (arith, within, h.cut.reaches, h.cut.most, most, length-append head.kept h.read)

      some : 0 < stride l
      some = some_stride l layout

      by_place : (p : ℕ) → p ≡ l.before + n → p ≤ 2 ^ 32
      by_place zero e = omega arith
      by_place (suc m) e =
          let begun = h.cut.begun (omega (arith, e)) in
          let same : l.before + n - 1 ≡ m = omega (arith, e) in
          let product : (l.before + n - 1) * stride l ≡ m * stride l = ap (λ k. k * stride l) same in
          let least : m * 1 ≤ m * stride l = mul-le-mul_left m some in
          omega (arith, begun, product, least, few)

  -- behind the last one
  pub all_done : (after : Option (List ℕ)) (n : ℕ) (window : WindowView) (counted : Joined) → IsUpTo context l head before after n window counted → length window.kept ≤ lead l n →
      (count : ℕ) → count ≡ reach window - head.base → (read : List ℕ) × IsAllRead context l.data_start l.range_size head before after read (data_read counted count l.range_size)
  all_done after n window counted h few count total =
      let text : List ℕ = head.kept ++ h.read in
      let joined : IsJoinedTo context text l.data_start l.range_size (ranges_before l text n) counted =
      subst (λ (t : List ℕ). IsJoinedTo context t l.data_start l.range_size (ranges_before l t n) counted) (append-nil text) (h.joined [] (λ _. refl)) in
      let within = h.cut.filled.1 in (
        h.read,
        record {
          moved = h.cut.moved;
          at_end = h.cut.at_end (all_ended l layout head before after h.made h.read n window h.cut few);
          none = h.cut.none;
          within = omega (arith, within, h.cut.reaches, h.cut.most);
          is = all_read context l layout text counted count (omega (arith, total, h.cut.reaches, length-append head.kept h.read)) (last_window context l layout text n counted (all_covered l layout head before after h.made h.read n window h.cut few) joined);
        },
      )
