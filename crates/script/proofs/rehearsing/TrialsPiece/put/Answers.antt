use Rattle.std.proofs.Common.{ℕ, map, length, take, ap, sym, arith, rules}
use Rattle.std.proofs.lemmas.Slice.Zip.{zip_turn, zip_end}
use Rattle.std.proofs.lemmas.List.{length_push}
use Rattle.std.specs.List.{flat_map}
use Rattle.lines.specs.Lines.{tried_text}
use Rattle.lines.proofs.Placing.{called, begun, turned, turned_over, turned_all}
use Rattle.script.specs.Session.{answered}
use Rattle.script.specs.Printed.{ends_of}
use Rattle.script.proofs.Trials.{answered_length, tried_of, tried_here}
use Rattle.script.proofs.rehearsing.TrialsPiece.put.Goals as goal

pub loop-tried-init : goal.loop-tried-init
loop-tried-init g c = (search rules, search rules, begun _)

pub returns-in_err-len : goal.returns-in_err-len
returns-in_err-len g c =
    let ts = c.args.self.now.tries.now in
    let xs = c.args.self.now.trials.now in
    let i = length c.loop-tried.yielded in
    let turn = zip_turn ts xs c.loop-tried.yielded c.into_iter-tried-iterator.result c.loop-tried.tried-iterator c.next.new.self c.next.result (search rules) (search rules) c.loop-tried.yielded_by (c.in-Some.tried, c.in-Some.trial) c.in-Some.is c.next.ensures.steps in
    let long = answered_length ends_of ts xs in
    turned_over tried_text (answered (map ends_of ts) xs) i (tried_of c.in-Some.tried.now c.in-Some.trial.now) (omega arith) (tried_here ts xs i _ _ turn.0 turn.1 (turn.2 _) (turn.3 _)) c.from_residual.ensures c.loop-tried.invariant.2 c.in_err-len.ensures.text

pub loop-tried-preserved : goal.loop-tried-preserved
loop-tried-preserved g c =
    let ts = c.args.self.now.tries.now in
    let xs = c.args.self.now.trials.now in
    let i = length c.loop-tried.yielded in
    let turn = zip_turn ts xs c.loop-tried.yielded c.into_iter-tried-iterator.result c.loop-tried.tried-iterator c.next.new.self c.next.result (search rules) (search rules) c.loop-tried.yielded_by (c.in-Some.tried, c.in-Some.trial) c.in-Some.is c.next.ensures.steps in
    let long = answered_length ends_of ts xs in
    let told = answered (map ends_of ts) xs in
    (search rules, search rules, called (ap (λ (n : ℕ). flat_map tried_text (take n told)) (sym (length_push c.loop-tried.yielded (c.in-Some.tried, c.in-Some.trial)))) (turned tried_text told i (tried_of c.in-Some.tried.now c.in-Some.trial.now) (omega arith) (tried_here ts xs i _ _ turn.0 turn.1 (turn.2 _) (turn.3 _)) c.loop-tried.invariant.2 c.in_ok-len.ensures.text))

pub returns : goal.returns
returns g c =
    let ts = c.args.self.now.tries.now in
    let xs = c.args.self.now.trials.now in
    let end = zip_end ts xs c.loop-tried.yielded c.into_iter-tried-iterator.result c.loop-tried.tried-iterator c.next.new.self c.next.result (search rules) (search rules) c.loop-tried.yielded_by c.in-None.is c.next.ensures.steps in
    let long = answered_length ends_of ts xs in
    turned_all tried_text (answered (map ends_of ts) xs) (length c.loop-tried.yielded) (omega arith) c.loop-tried.invariant.2
