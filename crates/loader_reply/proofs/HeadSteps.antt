-- A head that is read on: what comes behind it, and what is found in it.
use Rattle.std.proofs.Common.{◌≡◌, inl, inr, ℕ, ◌+◌, ◌≤◌, Bool, true, false, cond, ◌&&◌, not, List, [], ◌++◌, length, take, Option, None, Some, refl, sym, ◌∙◌, ap, subst, arith, length-append}
use Rattle.std.specs.Io.KnownBytes.{Consumes, IsAtEnd}
use Rattle.std.proofs.KnownBytes.{Consumes-trans}
use Rattle.std.proofs.lemmas.List.{nil_from_length, take-append-le}
use Rattle.byte_classes.specs.LineEnds.{line_ends}
use Rattle.csv_source.specs.Moves.{MovesFront}
use Rattle.load_options.specs.declared.options.Options.{Options}
use Rattle.csv_sniffer.specs.declared.found.Sniffed.{Sniffed}
use Rattle.csv_sniffer.specs.Input.{found, data_place, has_same_header, place_under}
use Rattle.window_load.specs.DataRead.{ComesWhole, ComesOver}
use Rattle.window_load.specs.Window.{WindowView, reach, no_bytes, ReachesOn}
use Rattle.loader_reply.specs.Loading.{is_headed_otherwise, later_start, IsHead, IsFileLoad, IsLaterLoad}
use Rattle.window_load.specs.declared.data_read.WindowRead.{WindowRead}
use Rattle.report_text.specs.declared.outcome.Outcome.{Outcome}
use Rattle.loader_reply.specs.Reply.{sniffed_outcome}
use Rattle.loader_reply.proofs.HeadLaws.{found_in_head, sniffed_in_head}

module _ (before after : Option (List ℕ)) (head : WindowView) where
  -- a fact of the whole input that follows from another
  pub comes_weaker : (P Q : List ℕ → Type 0) → ((came : List ℕ) → (head.ended ≡ true → came ≡ []) → P (head.kept ++ came) → Q (head.kept ++ came)) → ComesWhole before after head P → ComesWhole before after head Q
  comes_weaker P Q gives c = (c.0, c.1, c.2, c.3, c.4, gives c.0 c.3 c.5)

  -- the head came before
  pub comes_from : (first : Option (List ℕ)) (most : ℕ) (P : List ℕ → Type 0) → Consumes first before head.kept → head.most ≡ most → ComesWhole before after head P → ComesWhole first after (no_bytes most) P
  comes_from first most P taken limit c = (
    head.kept ++ c.0,
    Consumes-trans first before after head.kept c.0 taken c.1,
    c.2,
    λ ended. absurd (let wrong : ⊥ = cc in wrong),
    omega (arith, c.4, limit),
    c.5,
  )

  pub over_from : (first : Option (List ℕ)) (most : ℕ) → Consumes first before head.kept → head.most ≡ most → ComesOver before after head → ComesOver first after (no_bytes most)
  over_from first most taken limit c = (head.kept ++ c.0, Consumes-trans first before after head.kept c.0 taken c.1, omega (arith, c.2, limit))

  -- what stands behind the head is read and dropped
  module _ (head2 : WindowView) (begins : head.base ≡ 0) (moves : ReachesOn before after head head2) where
    pub past_over : reach head2 ≡ head2.most + 1 → ComesOver before after head
    past_over over = (moves.0, moves.1, omega (arith, over, moves.2, moves.3, begins, length-append head.kept moves.0))

    pub past_whole : (P : List ℕ → Type 0) → (head.ended ≡ true → head2 ≡ head) → IsAtEnd after → reach head2 ≤ head2.most →
        ((came : List ℕ) → (head.ended ≡ true → came ≡ []) → P (head.kept ++ came)) → ComesWhole before after head P
    past_whole P stays end limit holds =
        let quiet : head.ended ≡ true → moves.0 ≡ [] = λ ended. nil_from_length moves.0 (omega (arith, moves.2, ap reach (stays ended))) in (
          moves.0,
          moves.1,
          end,
          quiet,
          omega (arith, limit, moves.2, moves.3, begins, length-append head.kept moves.0),
          holds moves.0 quiet,
        )

-- what is found in the head
module _ (o : Options) (head : WindowView) (is : IsHead o.skip o.max_input head) (came : List ℕ) (quiet : head.ended ≡ true → came ≡ []) where
  in_head : (found o (head.kept ++ came) ≡ found o head.kept) × ((s : Sniffed) → data_place o (head.kept ++ came) s ≡ data_place o head.kept s) × ((s : Sniffed) → place_under o s (head.kept ++ came) ≡ place_under o s head.kept)
      × ((s : Sniffed) → has_same_header o s (head.kept ++ came) ≡ has_same_header o s head.kept)
  in_head = found_in_head o head.kept came (elim is.sample [ inl ended ↦ inl (quiet ended) | inr far ↦ inr far ])

  pub found_in_all : (s : Sniffed) → s ≡ found o head.kept → s ≡ found o (head.kept ++ came)
  found_in_all s here = here ∙ sym in_head.0

  pub sniffed_in_all : (outcome : Outcome) → outcome ≡ sniffed_outcome o head.kept → outcome ≡ sniffed_outcome o (head.kept ++ came)
  sniffed_in_all outcome here = here ∙ sym (sniffed_in_head o head.kept came (elim is.sample [ inl ended ↦ inl (quiet ended) | inr far ↦ inr far ]))

  pub placed_in_all : (s : Sniffed) (start : ℕ) → start ≡ place_under o s head.kept → start ≡ place_under o s (head.kept ++ came)
  placed_in_all s start here = here ∙ sym (in_head.2 s)

  pub headed_in_all : (s : Sniffed) → is_headed_otherwise o s (head.kept ++ came) ≡ is_headed_otherwise o s head.kept
  headed_in_all s = ap (λ t. o.same_header && not t) (in_head.3 s)

  -- a later file that begins with no other header
  pub later_load : (s : Sniffed) (file_id : ℕ) (read : WindowRead) → is_headed_otherwise o s head.kept ≡ false → IsFileLoad o s file_id (head.kept ++ came) read → IsLaterLoad o s file_id (head.kept ++ came) (Some read)
  later_load s file_id read alike is = (headed_in_all s ∙ alike, is)

  pub lines_in_all : (start : ℕ) → start ≤ length head.kept → line_ends None (take start head.kept) ≡ line_ends None (take start (head.kept ++ came))
  lines_in_all start within = ap (line_ends None) (sym (take-append-le start head.kept came within))

-- where the data of a later file begin, unless it is headed otherwise
module _ (o : Options) (s : Sniffed) (bytes input : List ℕ) (begins : Option ℕ) (is : begins ≡ later_start o s bytes) (same : bytes ≡ input) where
  begins_in : begins ≡ later_start o s input
  begins_in = is ∙ ap (later_start o s) same

  pub begins_at : (start : ℕ) → begins ≡ Some start → (is_headed_otherwise o s input ≡ false) × (start ≡ place_under o s input)
  begins_at start some = by_header (is_headed_otherwise o s input) (sym some ∙ begins_in) where
    by_header : (t : Bool) → Some start ≡ cond t None (Some (place_under o s input)) → (t ≡ false) × (start ≡ place_under o s input)
    by_header true wrong = absurd (let no : ⊥ = cc in no)
    by_header false here = (refl, cc)

  pub begins_otherwise : begins ≡ None → is_headed_otherwise o s input ≡ true
  begins_otherwise none = by_header (is_headed_otherwise o s input) (sym none ∙ begins_in) where
    by_header : (t : Bool) → None ≡ cond t None (Some (place_under o s input)) → t ≡ true
    by_header true here = refl
    by_header false wrong = absurd (let no : ⊥ = cc in no)

-- ---- the reading of the head

-- a head that isn't yet known to hold the sample
pub record IsHeadSoFar (most : ℕ) (first left : Option (List ℕ)) (head : WindowView) : Type 0 where
  pub came : Consumes first left head.kept
  pub begins : head.base ≡ 0
  pub limit : head.most ≡ most
  pub within : length head.kept ≤ most

module _ (most : ℕ) (first left next : Option (List ℕ)) (head head2 : WindowView) (is : IsHeadSoFar most first left head) (moves : MovesFront left next head.kept head2.kept)
    (base : head2.base ≡ head.base) (limit : head2.most ≡ head.most) where
  came_on : Consumes first next head2.kept
  came_on = subst (Consumes first next) (sym moves.1) (Consumes-trans first left next head.kept moves.0 is.came moves.2)

  pub head_over : reach head2 ≡ head2.most + 1 → ComesOver first next (no_bytes most)
  head_over over = (head2.kept, came_on, omega (arith, over, base, is.begins, limit, is.limit))
