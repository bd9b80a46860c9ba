use Rattle.std.proofs.Common.{rules, not, length, ap, ◌∙◌}
use Rattle.std.proofs.lemmas.Iterator.{YieldsList-from_slice}
use Rattle.std.proofs.lemmas.Iterator.Search.{position_from_yields_List}
use Rattle.std.specs.Option.{unwrap_or}
use Rattle.text.specs.Alphabet.{class, same}
use Rattle.text.proofs.Positions.{first_failing}
use Rattle.text.proofs.run.run_length.Goals as goal

pub returns : goal.returns
returns c =
    c.unwrap_or.ensures
    ∙ ap (λ o. unwrap_or o (length c.args.bytes.now))
    (position_from_yields_List (λ b. not (same (class b) c.args.class)) _ _ _ c.position.ensures.ran (YieldsList-from_slice c.args.bytes.now cc) (λ x b q k. search rules))
    ∙ first_failing (λ b. same (class b) c.args.class) c.args.bytes.now
