use Rattle.std.proofs.Common.{◌≡◌, [], Some, rules}
use Rattle.json.specs.Json.{value}
use Rattle.json.specs.Lex.{tokens}
use Rattle.json.specs.Value.{value_view}
use Rattle.clr_rule_text.proofs.JsonSeen.{value_read, value_refused}
use Rattle.clr_rule_text.proofs.borrowed.read_value.Goals as goal

pub returns-then-not-has_numbers : goal.returns-then-not-has_numbers
returns-then-not-has_numbers c =
    let none : c.read.new.reader ≡ [] = search rules in
    let parsed : value 127 (tokens c.args.text.now) ≡ Some (value_view c.in-Ok.json, []) = rw (c.in_ok-reader.ensures.ok, none) at c.in-Ok.ensures.ok in
    value_refused c.args.text.now (value_view c.in-Ok.json) parsed (search rules)

pub returns : goal.returns
returns c =
    let none : c.read.new.reader ≡ [] = search rules in
    let parsed : value 127 (tokens c.args.text.now) ≡ Some (value_view c.in-Ok.json, []) = rw (c.in_ok-reader.ensures.ok, none) at c.in-Ok.ensures.ok in
    value_read c.args.text.now (value_view c.in-Ok.json) parsed (search rules)
