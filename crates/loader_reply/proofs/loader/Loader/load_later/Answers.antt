use Rattle.std.proofs.Common.{◌≡◌, ◌+◌, ◌∙◌, Some, None, rules}
use Rattle.window_load.specs.DataRead.{ComesOver}
use Rattle.window_load.specs.Window.{reach}
use Rattle.loader_reply.specs.Loading.{IsFileLoad, IsLaterLoad}
use Rattle.loader_reply.proofs.HeadFiles.{whole_file, over_file}
use Rattle.loader_reply.proofs.HeadSteps.{begins_at, begins_otherwise, headed_in_all, later_load, past_over, past_whole}
use Rattle.loader_reply.proofs.loader.Loader.load_later.Goals as goal

pub load_data-requires-clause-place : goal.load_data-requires-clause-place
load_data-requires-clause-place g c κs within =
    let o = c.args.self.now.options.now in
    let s = c.args.sniffed.now in
    (begins_at o s c.bytes.result.now c.in_ok-head.head.kept c.in_ok-begins.begins c.in_ok-begins.ensures.ok c.bytes.ensures c.in-Some.start c.in-Some.is).1

pub returns-in_err-read_past-in-None-clause-too_large : goal.returns-in_err-read_past-in-None-clause-too_large
returns-in_err-read_past-in-None-clause-too_large g c = λ e.
    let over : reach c.read_past.new.self ≡ c.read_past.new.self.most + 1 = search rules in
    over_file c.args.self.now.options.now.max_input (g.S.Source.held c.args.source.now) c.args.name.now (g.S.Source.left c.open_head.new.source) (g.S.Source.left c.read_past.new.source) c.in_ok-head.head c.in_ok-head.ensures.ok.0.limit c.in_ok-head.ensures.ok.1
    (past_over (g.S.Source.left c.open_head.new.source) (g.S.Source.left c.read_past.new.source) c.in_ok-head.head c.read_past.new.self c.in_ok-head.ensures.ok.0.begins c.read_past.ensures.moved over)

pub returns-in_ok-read_past-in-None-clause-ok : goal.returns-in_ok-read_past-in-None-clause-ok
returns-in_ok-read_past-in-None-clause-ok g c =
    let o = c.args.self.now.options.now in
    let s = c.args.sniffed.now in
    let head = c.in_ok-head.head in
    let other = begins_otherwise o s c.bytes.result.now head.kept c.in_ok-begins.begins c.in_ok-begins.ensures.ok c.bytes.ensures c.in-None.is in
    whole_file o.max_input (g.S.Source.held c.args.source.now) c.args.name.now (g.S.Source.left c.open_head.new.source) (g.S.Source.left c.read_past.new.source) head c.in_ok-head.ensures.ok.0.limit c.in_ok-head.ensures.ok.1
    (λ input. IsLaterLoad o s c.args.file_id input None) (λ input. IsLaterLoad o s c.args.file_id input None) (λ came quiet is. is)
    (past_whole (g.S.Source.left c.open_head.new.source) (g.S.Source.left c.read_past.new.source) head c.read_past.new.self c.in_ok-head.ensures.ok.0.begins c.read_past.ensures.moved
    (λ input. IsLaterLoad o s c.args.file_id input None) c.read_past.ensures.stays (c.read_past.ensures.at_end c.in_ok-read_past-in-None.ensures.ok.0) c.in_ok-read_past-in-None.ensures.ok.1
    (λ came quiet. headed_in_all o head c.in_ok-head.ensures.ok.0 came quiet s ∙ other))

pub returns-in_ok-load_data-in-Some-clause-ok : goal.returns-in_ok-load_data-in-Some-clause-ok
returns-in_ok-load_data-in-Some-clause-ok g c =
    let o = c.args.self.now.options.now in
    let s = c.args.sniffed.now in
    let head = c.in_ok-head.head in
    let load = c.in_ok-load_data-in-Some.field-0 in
    let alike = (begins_at o s c.bytes.result.now head.kept c.in_ok-begins.begins c.in_ok-begins.ensures.ok c.bytes.ensures c.in-Some.start c.in-Some.is).0 in
    whole_file o.max_input (g.S.Source.held c.args.source.now) c.args.name.now (g.S.Source.left c.open_head.new.source) (g.S.Source.left c.load_data.new.source) head c.in_ok-head.ensures.ok.0.limit c.in_ok-head.ensures.ok.1
    (λ input. IsFileLoad o s c.args.file_id input load) (λ input. IsLaterLoad o s c.args.file_id input (Some load)) (λ came quiet is. later_load o head c.in_ok-head.ensures.ok.0 came quiet s c.args.file_id load alike is)
    c.in_ok-load_data-in-Some.ensures.ok

pub returns-in_err-load_data-in-Some-clause-too_large : goal.returns-in_err-load_data-in-Some-clause-too_large
returns-in_err-load_data-in-Some-clause-too_large g c = λ e.
    let over : ComesOver (g.S.Source.left c.open_head.new.source) (g.S.Source.left c.load_data.new.source) c.in_ok-head.head = search rules in
    over_file c.args.self.now.options.now.max_input (g.S.Source.held c.args.source.now) c.args.name.now (g.S.Source.left c.open_head.new.source) (g.S.Source.left c.load_data.new.source) c.in_ok-head.head c.in_ok-head.ensures.ok.0.limit c.in_ok-head.ensures.ok.1
    over
