use Rattle.std.proofs.Common.{Err, ◌≡◌, ◌⊎◌, inl, inr, ℕ, ◌+◌, ◌<◌, ◌^◌, List, [], ◌∷◌, length, sym, ◌∙◌, ap, subst, arith, rules}
use Rattle.std.specs.Prelude.{option_map}
use Rattle.csv_source.specs.Causes.{Rose}
use Rattle.csv_source.specs.Files.{Lacks}
use Rattle.window_load.specs.declared.stop.LoadStop.TheVariants as stops
use Rattle.csv_sniffer.specs.declared.found.Sniffed.{Sniffed}
use Rattle.load_options.specs.declared.options.Options.{Options}
use Rattle.range_scan.specs.Scanned.{HasColumns}
use Rattle.loader_reply.specs.Batch.{IsReadOver, names_behind, names_of, no_files}
use Rattle.loader_reply.specs.Reading.{schema_of}
use Rattle.loader_reply.specs.SoFar.{AreSoFar, IsSoFar, ReadsNext, Told}
use Rattle.loader_reply.specs.declared.batch.Load.{Load}
use Rattle.loader_reply.proofs.FileSteps.{none_read, none_so_far, over_told, lacks_one, all_loaded, all_have_files, all_printable}
use Rattle.loader_reply.proofs.loader.Loader.load_files.Goals as goal

pub returns-in_err-files-clause-too_large : goal.returns-in_err-files-clause-too_large
returns-in_err-files-clause-too_large g c = λ e.
    let limit = c.args.self.now.options.now.max_input in
    let held = g.S.Source.held c.args.source.now in
    let left = g.S.Source.left c.load_first.new.source in
    let all = names_of c.args.several c.args.word.now in
    let name = c.first_of.result.0.now in
    let later = names_behind (option_map (λ text. text.now) c.first_of.result.1) in
    let begun : AreSoFar limit held all (name ∷ later) = subst (AreSoFar limit held all) c.first_of.ensures (none_read limit held all) in
    let over : IsReadOver limit held name left = search rules in
    over_told limit held all name later begun left over

pub returns-in_err-files-clause-failed : goal.returns-in_err-files-clause-failed
returns-in_err-files-clause-failed g c = λ e.
    let limit = c.args.self.now.options.now.max_input in
    let held = g.S.Source.held c.args.source.now in
    let left = g.S.Source.left c.load_first.new.source in
    let all = names_of c.args.several c.args.word.now in
    let name = c.first_of.result.0.now in
    let later = names_behind (option_map (λ text. text.now) c.first_of.result.1) in
    let begun : AreSoFar limit held all (name ∷ later) = subst (AreSoFar limit held all) c.first_of.ensures (none_read limit held all) in
    let cause : Rose (g.S.Source.faults c.args.source.now) (g.S.Source.faults c.load_first.new.source) ⊎ Lacks held name = search rules in
    elim cause [
      | inl rose ↦ inl rose
      | inr lacks ↦ inr (lacks_one limit held all name later begun left lacks)
    ]

pub loop-behind-init : goal.loop-behind-init
loop-behind-init g c =
    let o = c.args.self.now.options.now in
    let s = c.in_ok-files.files.sniffed in
    let held = g.S.Source.held c.args.source.now in
    let all = names_of c.args.several c.args.word.now in
    let name = c.first_of.result.0.now in
    let later = names_behind (option_map (λ text. text.now) c.first_of.result.1) in
    let first = c.in_ok-files.ensures.ok in record {
      so_far = first.0 all later (subst (λ names. IsSoFar o s held all names 0 (no_files s.types)) c.first_of.ensures (none_so_far o s held all));
      later = omega arith;
      columns = c.in_ok-files.ensures.columns;
      few = c.in_ok-files.ensures.few;
      left = first.1;
      held = c.load_first.ensures.held;
      count = c.load_first.ensures.count;
    }

-- behind a name there are the names of the text behind its comma
at_next : (o : Options) (s : Sniffed) (held : Told) (all : List (List ℕ)) (number : ℕ) (load : Load) {names : List (List ℕ)} {name : List ℕ} {later : List (List ℕ)} →
    names ≡ name ∷ later → IsSoFar o s held all names number load → IsSoFar o s held all (name ∷ later) number load
at_next o s held all number load same is = subst (λ names. IsSoFar o s held all names number load) same is

pub load_next-requires-clause-so_far : goal.load_next-requires-clause-so_far
load_next-requires-clause-so_far g c κs within =
    let o = c.args.self.now.options.now in
    let files = c.loop-behind.files in
    let number = c.loop-behind.number in
    let held = g.S.Source.held c.args.source.now in
    let all = names_of c.args.several c.args.word.now in
    let same = ap (λ b. names_behind (option_map (λ text. text.now) b)) c.in-Some.is ∙ c.first_name.ensures in (
      all,
      names_behind (option_map (λ text. text.now) c.first_name.result.1),
      subst (λ h. IsSoFar o files.sniffed h all (c.first_name.result.0.now ∷ names_behind (option_map (λ text. text.now) c.first_name.result.1)) number files.load) (sym c.loop-behind.invariant.held)
          (at_next o files.sniffed held all number files.load same c.loop-behind.invariant.so_far),
    )

pub returns-in-Err-clause-too_large : goal.returns-in-Err-clause-too_large
returns-in-Err-clause-too_large g c = λ e.
    let same : c.in-Err.stop ≡ stops.TooLarge = cc in
    let o = c.args.self.now.options.now in
    let files = c.loop-behind.files in
    let held = g.S.Source.held c.args.source.now in
    let left = g.S.Source.left c.load_next.new.source in
    let all = names_of c.args.several c.args.word.now in
    let name = c.first_name.result.0.now in
    let later = names_behind (option_map (λ text. text.now) c.first_name.result.1) in
    let at = at_next o files.sniffed held all c.loop-behind.number files.load (ap (λ b. names_behind (option_map (λ text. text.now) b)) c.in-Some.is ∙ c.first_name.ensures) c.loop-behind.invariant.so_far in
    over_told o.max_input held all name later at.read left (subst (λ h. IsReadOver o.max_input h name left) c.loop-behind.invariant.held (c.load_next.ensures.too_large (c.in-Err.is ∙ ap (λ s. Err s) same)))

pub returns-in-Err-clause-failed : goal.returns-in-Err-clause-failed
returns-in-Err-clause-failed g c = λ e.
    let same : c.in-Err.stop ≡ stops.Failed = cc in
    let o = c.args.self.now.options.now in
    let files = c.loop-behind.files in
    let held = g.S.Source.held c.args.source.now in
    let left = g.S.Source.left c.load_next.new.source in
    let all = names_of c.args.several c.args.word.now in
    let name = c.first_name.result.0.now in
    let later = names_behind (option_map (λ text. text.now) c.first_name.result.1) in
    let at = at_next o files.sniffed held all c.loop-behind.number files.load (ap (λ b. names_behind (option_map (λ text. text.now) b)) c.in-Some.is ∙ c.first_name.ensures) c.loop-behind.invariant.so_far in
    elim (c.load_next.ensures.failed (c.in-Err.is ∙ ap (λ s. Err s) same)) [
      | inl rose ↦ inl (omega (arith, rose, c.loop-behind.invariant.count))
      | inr lacks ↦ inr (lacks_one o.max_input held all name later at.read left (subst (λ h. Lacks h name) c.loop-behind.invariant.held lacks))
    ]

pub loop-behind-preserved : goal.loop-behind-preserved
loop-behind-preserved g c =
    let o = c.args.self.now.options.now in
    let files = c.loop-behind.files in
    let after = c.load_next.new.files in
    let number = c.loop-behind.number in
    let held = g.S.Source.held c.args.source.now in
    let left = g.S.Source.left c.load_next.new.source in
    let all = names_of c.args.several c.args.word.now in
    let name = c.first_name.result.0.now in
    let later = names_behind (option_map (λ text. text.now) c.first_name.result.1) in
    let at = at_next o files.sniffed held all number files.load (ap (λ b. names_behind (option_map (λ text. text.now) b)) c.in-Some.is ∙ c.first_name.ensures) c.loop-behind.invariant.so_far in
    let next = c.in-Ok.ensures.ok in
    let same = sym c.load_next.ensures.sniffed in
    let reads : ReadsNext o files.sniffed held name number files.load after.load left = subst (λ h. ReadsNext o files.sniffed h name number files.load after.load left) c.loop-behind.invariant.held next.1 in record {
      so_far = subst (λ n. IsSoFar o after.sniffed held all later n after.load) (sym next.0) (subst (λ (s : Sniffed). IsSoFar o s held all later (number + 1) after.load) same (reads.0 all later at));
      later = omega (arith, next.0);
      columns = subst (λ (s : Sniffed). HasColumns (schema_of o s)) same c.loop-behind.invariant.columns;
      few = subst (λ (s : Sniffed). length s.names < 2 ^ 63) same c.loop-behind.invariant.few;
      left = reads.1;
      held = c.load_next.ensures.held ∙ c.loop-behind.invariant.held;
      count = omega (arith, c.load_next.ensures.count, c.loop-behind.invariant.count);
    }

pub returns-clause-ok : goal.returns-clause-ok
returns-clause-ok g c =
    let o = c.args.self.now.options.now in
    let files = c.loop-behind.files in
    let held = g.S.Source.held c.args.source.now in
    let all = names_of c.args.several c.args.word.now in
    let none : names_behind (option_map (λ text. text.now) c.loop-behind.behind) ≡ [] = search rules in
    let at = subst (λ names. IsSoFar o files.sniffed held all names c.loop-behind.number files.load) none c.loop-behind.invariant.so_far in
    all_loaded o files.sniffed held all c.loop-behind.number files.load at c.loop-behind.invariant.later (g.S.Source.left c.loop-behind.source) c.loop-behind.invariant.left

pub returns-clause-printable : goal.returns-clause-printable
returns-clause-printable g c =
    let o = c.args.self.now.options.now in
    let files = c.loop-behind.files in
    let held = g.S.Source.held c.args.source.now in
    let all = names_of c.args.several c.args.word.now in
    let none : names_behind (option_map (λ text. text.now) c.loop-behind.behind) ≡ [] = search rules in
    let at = subst (λ names. IsSoFar o files.sniffed held all names c.loop-behind.number files.load) none c.loop-behind.invariant.so_far in
    all_printable o files.sniffed held all c.loop-behind.number files.load at c.loop-behind.invariant.columns.same

pub returns-clause-files : goal.returns-clause-files
returns-clause-files g c =
    let o = c.args.self.now.options.now in
    let files = c.loop-behind.files in
    let held = g.S.Source.held c.args.source.now in
    let all = names_of c.args.several c.args.word.now in
    let none : names_behind (option_map (λ text. text.now) c.loop-behind.behind) ≡ [] = search rules in
    let at = subst (λ names. IsSoFar o files.sniffed held all names c.loop-behind.number files.load) none c.loop-behind.invariant.so_far in
    all_have_files o files.sniffed held all c.loop-behind.number files.load at (g.S.Source.left c.loop-behind.source)
