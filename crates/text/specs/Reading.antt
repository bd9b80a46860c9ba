-- What a reader has before it. Assumes nothing.
use Rattle.text.specs.Runs.{runs}
use Rattle.text.specs.Script.{State, lines}
use Rattle.text.specs.Tokens.{tokens}
use Rattle.text.specs.declared.reader.Reader.{Reader}

abbrev pub state : Reader → State
state r = record { number = r.line.place.line; left = tokens r.line.place (runs r.line.rest.now); following = lines r.text.now }
