-- How texts within a block are written.
use Rattle.std.specs.Prelude.{ℕ, List, ◌++◌, codes}
use Rattle.clr_svg.specs.declared.colours.Colour.{Colour}
use Rattle.clr_svg.specs.Escapes.{escaped}
use Rattle.clr_svg.specs.Numbers.{colour_text}
use Rattle.clr_html.specs.declared.texts.InlineText.{InlineText}
use Rattle.clr_html.specs.declared.texts.InlineText.TheVariants.{Plain, Strong, Soft, Named}

-- words, which are escaped, between two marks
unfoldable pub between : List ℕ → List ℕ → List ℕ → List ℕ
between begin words end = begin ++ escaped words ++ end

-- a bar of a colour, and then the words
abbrev pub named_text : Colour → List ℕ → List ℕ
named_text colour words =
    codes "<span class=\"ink\" style=\"background:" ++ colour_text colour ++ between (codes "\"></span><b>") words (codes "</b>")

-- the words are escaped, with marks or without
abbrev pub text_text : InlineText → List ℕ
text_text (Plain words) = escaped words.items
text_text (Strong words) = between (codes "<b>") words.items (codes "</b>")
text_text (Soft words) = between (codes "<small>") words.items (codes "</small>")
text_text (Named colour words) = named_text colour words.items
