-- A head that is read on while its sample is looked at.
use Rattle.std.proofs.Common.{◌≡◌, inl, inr, ℕ, ◌+◌, ◌≤◌, true, false, List, [], ◌++◌, length, Option, sym, ◌∙◌, ap, subst, arith, length-append}
use Rattle.std.specs.Io.KnownBytes.{Consumes}
use Rattle.std.proofs.KnownBytes.{Consumes-trans}
use Rattle.csv_source.specs.Moves.{MovesFront}
use Rattle.load_options.specs.declared.options.Options.{Options}
use Rattle.csv_sniffer.specs.declared.finding.Finding.{Finding}
use Rattle.csv_sniffer.specs.Input.{found}
use Rattle.csv_sniffer.specs.declared.found.Sniffed.{Sniffed}
use Rattle.window_load.specs.DataRead.{ComesWhole, ComesOver}
use Rattle.window_load.specs.Groups.{group_reach}
use Rattle.window_load.specs.Window.{WindowView, reach, behind_front, fill_limit}
use Rattle.loader_reply.specs.Batch.{IsOpened, IsReadOver, IsReadWhole}
use Rattle.loader_reply.specs.Loading.{IsFileLoad, IsHead, IsFinding, IsSniffedHead, GoesBehindSample}
use Rattle.window_load.specs.declared.data_read.WindowRead.{WindowRead}
use Rattle.loader_reply.specs.declared.sniffed_head.SniffedHead.{SniffedHead}
use Rattle.loader_reply.proofs.HeadFiles.{whole_file, over_file}
use Rattle.loader_reply.proofs.HeadLaws.{start-more}
use Rattle.loader_reply.proofs.HeadSteps.{found_in_all, placed_in_all}

-- bytes that go behind the sample still do with others behind them
goes_behind_more : (skip : ℕ) (head rest : List ℕ) → GoesBehindSample skip head → GoesBehindSample skip (head ++ rest)
goes_behind_more skip head rest far = omega (arith, far, start-more skip head rest far, length-append head rest)

module _ (o : Options) (before after : Option (List ℕ)) (head begun next : WindowView) (is : IsHead o.skip o.max_input head) (going : head.ended ≡ false)
    (copied : begun ≡ behind_front 0 head) (moves : MovesFront before after begun.kept next.kept) (base : next.base ≡ begun.base) (limit : next.most ≡ begun.most) where
  grown : next.kept ≡ head.kept ++ moves.0
  grown = moves.1 ∙ ap (λ (w : WindowView). w.kept ++ moves.0) copied

  based : next.base ≡ 0
  based = base ∙ ap (λ (w : WindowView). w.base) copied ∙ ap (λ n. n + 0) is.begins

  limited : next.most ≡ head.most
  limited = limit ∙ ap (λ (w : WindowView). w.most) copied

  quiet : head.ended ≡ true → moves.0 ≡ []
  quiet ended = absurd (let wrong : ⊥ = cc in wrong)

  far : GoesBehindSample o.skip head.kept
  far = elim is.sample [
    | inl ended ↦ absurd (let wrong : ⊥ = cc in wrong)
    | inr behind ↦ behind
  ]

  -- it is still a head, and what was found in it is found in all that it holds
  pub sniffed_on : (f : Finding) → reach next ≤ next.most → length next.kept ≤ fill_limit (group_reach o.range_size o.max_line_size) (length begun.kept) → IsFinding o head.kept f →
      IsSniffedHead o before after head (record { finding = f; head = next })
  sniffed_on f fits bound h = record {
    head = record {
      begins = based;
      limit = limited ∙ is.limit;
      within = omega (arith, fits, based, limited, is.limit);
      sample = inr (subst (GoesBehindSample o.skip) (sym grown) (goes_behind_more o.skip head.kept moves.0 far));
    };
    finding = subst (λ bytes. IsFinding o bytes f) (sym grown) (record {
      sniffed = found_in_all o head is moves.0 quiet f.sniffed h.sniffed;
      place = placed_in_all o head is moves.0 quiet f.sniffed f.data_start h.place;
      within = omega (arith, h.within, length-append head.kept moves.0);
    });
    moved = (moves.0, grown, moves.2);
    within = subst (λ (w : WindowView). length next.kept ≤ fill_limit (group_reach o.range_size o.max_line_size) (length w.kept)) copied bound;
  }

  pub goes_over : reach next ≡ next.most + 1 → ComesOver before after head
  goes_over over = (moves.0, moves.2, omega (arith, over, based, limited, ap length grown))

-- a file of which a head was read is opened still as the head goes on
pub still_opened : (held : Option (List (List ℕ × List ℕ))) (name : List ℕ) (before after : Option (List ℕ)) (old new : List ℕ) → IsOpened held name (λ first. Consumes first before old) →
    MovesFront before after old new → IsOpened held name (λ first. Consumes first after new)
still_opened held name before after old new opened moves =
    (opened.0, opened.1, subst (Consumes opened.0 after) (sym moves.1) (Consumes-trans opened.0 before after old moves.0 opened.2 moves.2))

-- the first file, whose head went on while its sample was looked at
module _ (o : Options) (held : Option (List (List ℕ × List ℕ))) (name : List ℕ) (before after left : Option (List ℕ)) (head : WindowView) (read : SniffedHead)
    (opened : IsOpened held name (λ first. Consumes first before head.kept)) (is : IsSniffedHead o before after head read) where
  abbrev s : Sniffed
  s = read.finding.sniffed

  still : IsOpened held name (λ first. Consumes first after read.head.kept)
  still = still_opened held name before after head.kept read.head.kept opened is.moved

  pub first_whole : (load : WindowRead) → ComesWhole after left read.head (λ input. IsFileLoad o s 0 input load) → IsReadWhole o.max_input held name left (λ input. (s ≡ found o input) × IsFileLoad o s 0 input load)
  first_whole load = whole_file o.max_input held name after left read.head is.head.limit still (λ input. IsFileLoad o s 0 input load) (λ input. (s ≡ found o input) × IsFileLoad o s 0 input load)
      (λ came quiet loads. (found_in_all o read.head is.head came quiet s is.finding.sniffed, loads))

  pub first_over : ComesOver after left read.head → IsReadOver o.max_input held name left
  first_over over = over_file o.max_input held name after left read.head is.head.limit still over
