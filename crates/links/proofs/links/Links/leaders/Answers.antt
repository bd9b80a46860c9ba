-- The boundary that a join hung has the leader of its parent, which a newer join hung or none.
use Rattle.std.proofs.Common.{rules, arith}
use Rattle.links.proofs.Tables.{led_none, led_more, within}
use Rattle.links.proofs.links.Links.leaders.Goals as goal

pub loop-b-init : goal.loop-b-init
loop-b-init c =
    let few = c.args.self.now.few in let long = c.hangings-boundaries.ensures.long in led_none c.args.self.now c.hangings-boundaries.result _ c.alone-leaders.result (omega arith) (search rules) c.hangings-boundaries.ensures.each c.alone-leaders.ensures.long c.alone-leaders.ensures.each

pub bounds-self-b : goal.bounds-self-b
bounds-self-b c = let w = within c.args.self.now _ _ _ _ c.loop-b.invariant c.in-Some.ensures.steps in let long = c.args.self.now.long in omega arith

pub bounds-leaders-b : goal.bounds-leaders-b
bounds-leaders-b c = within c.args.self.now _ _ _ _ c.loop-b.invariant c.in-Some.ensures.steps

pub loop-b-preserved : goal.loop-b-preserved
loop-b-preserved c = led_more c.args.self.now _ _ _ _ c.loop-b.invariant c.in-Some.ensures.steps
