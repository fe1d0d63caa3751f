use Rattle.std.proofs.Common.{◌≡◌, ◌++◌, [], ◌∷◌, ap, ◌∙◌, append-nil}
use Rattle.json.specs.Print.{print_from, quoted}
use Rattle.json.specs.Token.{string}
use Rattle.clr_geojson.proofs.strings.add_string.Goals as goal

pub returns : goal.returns
unfolding print_from
returns c =
    let before : c.string.new.self.before ≡ c.args.text.now.items = c.in_ok-string.ensures.room.0
    ∙ (c.new-writer.ensures.before ∙ ap (λ v. v.items) c.replace.ensures.value) in
    let tokens : c.string.new.self.tokens ≡ string c.args.words.now ∷ [] = c.in_ok-string.ensures.ok
    ∙ ap (λ ts. ts ++ string c.args.words.now ∷ []) c.new-writer.ensures.tokens in
    c.into_inner.ensures.items ∙ rw (before, tokens) (ap (λ t. c.args.text.now.items ++ t) (append-nil (quoted c.args.words.now)))
