-- The load of an input by its head and what comes behind it.
use Rattle.std.proofs.Common.{◌≡◌, ℕ, ◌≤◌, true, List, [], ◌++◌, length, take, drop, Option, None, refl, sym, ap, ◌∙◌, subst}
use Rattle.byte_classes.specs.LineEnds.{line_ends}
use Rattle.load_options.specs.declared.options.Options.{Options}
use Rattle.csv_sniffer.specs.declared.found.Sniffed.{Sniffed}
use Rattle.csv_sniffer.specs.Input.{place_under}
use Rattle.range_scan.specs.declared.context.Context.{Context}
use Rattle.window_load.specs.DataRead.{IsWindowRead, ComesWhole}
use Rattle.window_load.specs.Window.{WindowView}
use Rattle.window_load.specs.declared.data_read.WindowRead.{WindowRead}
use Rattle.window_load.specs.declared.data_read.WindowRead.TheVariants.{All, Stopped}
use Rattle.loader_reply.specs.Loading.{IsHead, IsFileLoad, context_of, raised_read, stops_at_error}
use Rattle.loader_reply.proofs.HeadSteps.{comes_weaker, placed_in_all, lines_in_all}
use Rattle.loader_reply.proofs.Loads.{first_error, whole_load}

module _ (o : Options) (head : WindowView) (is : IsHead o.skip o.max_input head) (s : Sniffed) (file_id start : ℕ) (context : Context) (before after : Option (List ℕ))
    (place : start ≡ place_under o s head.kept) (within : start ≤ length head.kept) (is_context : context ≡ context_of o s file_id) where
  abbrev lines : ℕ
  lines = line_ends None (take start head.kept)

  by_read : (read : WindowRead) (came : List ℕ) → (head.ended ≡ true → came ≡ []) → IsWindowRead context (drop start (head.kept ++ came)) start o.range_size (stops_at_error o) read →
      IsFileLoad o s file_id (head.kept ++ came) (raised_read context.keep lines read)
  by_read (All got) came quiet is_read =
      whole_load o s file_id (head.kept ++ came) start context o.range_size lines (stops_at_error o) (placed_in_all o head is came quiet s start place)
      is_context refl refl (lines_in_all o head is came quiet start within) got is_read
  by_read (Stopped first) came quiet is_read =
      first_error o s file_id (head.kept ++ came) start context o.range_size lines (stops_at_error o) (placed_in_all o head is came quiet s start place)
      is_context refl refl (lines_in_all o head is came quiet start within) first is_read

  pub load_comes : (read load : WindowRead) (n : ℕ) → n ≡ lines → load ≡ raised_read context.keep n read →
      ComesWhole before after head (λ input. IsWindowRead context (drop start input) start o.range_size (stops_at_error o) read) → ComesWhole before after head (λ input. IsFileLoad o s file_id input load)
  load_comes read load n same raises = comes_weaker before after head (λ input. IsWindowRead context (drop start input) start o.range_size (stops_at_error o) read) (λ input. IsFileLoad o s file_id input load)
      (λ came quiet is_read. subst (IsFileLoad o s file_id (head.kept ++ came)) (sym (raises ∙ ap (λ k. raised_read context.keep k read) same)) (by_read read came quiet is_read))
