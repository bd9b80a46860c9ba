use Rattle.std.proofs.Common.{◌≡◌, drop}
use Rattle.rules.specs.Pairs.{listed}
use Rattle.rules.proofs.spans.Spans.lists.Given as goal

-- a pair that is listed at all is listed among the spans that are still to come
abbrev pub invariant-loop-span : goal.invariant-loop-span
invariant-loop-span l = listed l.self.list.now l.range.low l.range.high ≡ listed (drop l.span-index l.self.list.now) l.range.low l.range.high
