-- The words of a line. Assumes nothing.
use Rattle.std.specs.Prelude.{ℕ, List, codes}
use Rattle.links.specs.declared.step.Sign.{Sign}
use Rattle.links.specs.declared.step.Origin.{Origin}
use Rattle.lines.specs.declared.words.Layer.{Layer}

abbrev pub layer_word : Layer → List ℕ
layer_word Layer.Text = codes "text"
layer_word Layer.Form = codes "form"

-- a step from the low to the high end is +, the other way −
abbrev pub sign_word : Sign → List ℕ
sign_word Sign.Plus = codes "+"
sign_word Sign.Minus = codes "-"

-- a step over the query itself is marked
abbrev pub origin_word : Origin → List ℕ
origin_word Origin.Released = codes ""
origin_word Origin.New = codes " new"
