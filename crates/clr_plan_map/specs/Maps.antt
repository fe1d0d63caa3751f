-- What the map of a plan tells.
use Rattle.std.specs.Prelude.{◌≡◌, ℕ, List, [], ◌∷◌, ◌++◌, Option, None, codes, length, pos}
use Rattle.clr_rows.specs.Contents.{Changes}
use Rattle.clr_steps.specs.Offices.{Office}
use Rattle.clr_steps.specs.Quiet.{MergeSet}
use Rattle.clr_cert.specs.declared.certificates.Precedence.{Precedence}
use Rattle.clr_clearance.specs.MergeSets.{change_sets}
use Rattle.clr_merge_sets.specs.declared.plans.Plan.{Plan}
use Rattle.clr_merge_sets.specs.declared.plans.Plan.TheVariants as plan
use Rattle.clr_plan.specs.PlanLines.{plan_text}
use Rattle.clr_svg.specs.declared.colours.Colour.{Colour}
use Rattle.clr_svg.specs.declared.elements.Anchor.TheVariants.{Start}
use Rattle.clr_svg.specs.declared.elements.Element.TheVariants.{Words}
use Rattle.clr_svg.specs.declared.elements.Label.{Label}
use Rattle.clr_svg.specs.declared.elements.PagePoint.{PagePoint}
use Rattle.clr_svg.specs.declared.elements.Weight.TheVariants.{Strong}
use Rattle.clr_svg.specs.declared.pages.Layer.{Layer}
use Rattle.clr_svg.specs.declared.pages.SvgPage.{SvgPage}
use Rattle.clr_svg.specs.declared.pixels.Pixels.{Pixels}
use Rattle.clr_svg.specs.Pages.{page_text}
use Rattle.clr_drawing.specs.Palette.{rgb}
use Rattle.clr_drawing.specs.Sketches.{IsWords}
use Rattle.clr_map_scenes.specs.declared.designs.Designs.{Designs}
use Rattle.clr_map_scenes.specs.Designs.{leaders_of as leaders_among, order_of}
use Rattle.clr_map_frames.specs.Headings.{design_names, design_names_text}
use Rattle.clr_plan_causes.specs.PlanCauses.{leaders_of}
use Rattle.clr_plan_precedences.specs.PlanPrecedences.{ArePrecedencesOfPlan}
use Rattle.clr_plan_map.specs.Sentences.{plan_sentence}
use Rattle.clr_plan_map.specs.Turns.{ShowsTurns}

-- the verdict ---------------------------------------------------------------------------------------

-- the word for what a plan says
abbrev pub plan_word : Plan → List ℕ
plan_word (plan.Cleared c) = codes "Cleared"
plan_word (plan.Blocked order cause) = codes "Not cleared"
plan_word (plan.Unfit v) = codes "Not looked at"
plan_word plan.OutOfMemory = codes "Not decided"

-- green, red or brown
abbrev pub plan_colour : Plan → Colour
plan_colour (plan.Cleared c) = rgb 26 127 75
plan_colour (plan.Blocked order cause) = rgb 193 18 31
plan_colour (plan.Unfit v) = rgb 138 90 0
plan_colour plan.OutOfMemory = rgb 138 90 0

-- lengths in tenths of a pixel
abbrev pub verdict_spot : PagePoint
verdict_spot = record { x = record { tenths = pos 280 }; y = record { tenths = pos 460 } }

abbrev pub verdict_size : Pixels
verdict_size = record { tenths = pos 260 }

-- a layer of just the word for a plan, which stands in bold letters in the colour of the plan
pub record ShowsVerdict (p : Plan) (layer : Layer) : Type 0 where
  pub label : Label
  pub says : IsWords (plan_word p) verdict_spot verdict_size (plan_colour p) Start Strong label
  pub whole : layer.elements.items ≡ Words label ∷ []
  pub seen : layer.window ≡ None

-- the last of some layers shows who goes before whom
abbrev pub ShowsTurnsLast : Option (List Precedence) → List Layer → Type 0
ShowsTurnsLast before layers = (below : List Layer) × (turns : Layer) × ShowsTurns before turns × (layers ≡ below ++ turns ∷ [])

-- behind some layers there is one of the word for a plan, and no more
abbrev pub AddsVerdict : Plan → List Layer → List Layer → Type 0
AddsVerdict p below layers = (over : Layer) × ShowsVerdict p over × (layers ≡ below ++ over ∷ [])

-- the last of some layers shows the word for a plan, and the last below it who goes before whom
abbrev pub ShowsOver : Plan → Option (List Precedence) → List Layer → Type 0
ShowsOver p before layers = (below : List Layer) × ShowsTurnsLast before below × AddsVerdict p below layers

-- the names -----------------------------------------------------------------------------------------

-- the designs of a plan, in the order in which they are told: those that its cause names first
pub record AreDesignsOf (s : MergeSet) (p : Plan) (d : Designs) : Type 0 where
  pub names : design_names d ≡ s.members
  pub order : d.order.items ≡ order_of (length s.members) (leaders_of p)
  pub leaders : leaders_among d ≡ leaders_of p

-- the names of the designs, as a heading lists them
abbrev pub TellsNames : MergeSet → Plan → List ℕ → Type 0
TellsNames s p names = (d : Designs) × AreDesignsOf s p d × (names ≡ design_names_text d)

-- the page ------------------------------------------------------------------------------------------

-- of members that make these changes: the title is the word for the plan with the names of the designs; the description is the plan in a sentence or two,
-- and then its lines; and the word is shown over all else, and below it who goes before whom, where the plan is blocked and an order is found
pub record IsMapPage (o : Office) (s : MergeSet) (sets : List Changes) (p : Plan) (page : SvgPage) : Type 0 where
  pub names : List ℕ
  pub named : TellsNames s p names
  pub title : page.title.items ≡ plan_word p ++ codes ": " ++ names
  pub description : page.description.items ≡ plan_sentence o s sets p ++ codes "\n" ++ plan_text o.schema s.members s.root p
  pub before : Option (List Precedence)
  pub ordered : ArePrecedencesOfPlan o s p before
  pub shown : ShowsOver p before page.layers.items

-- the text of such a page
abbrev pub IsMapOfChanges : Office → MergeSet → List Changes → Plan → List ℕ → Type 0
IsMapOfChanges o s sets p text = (page : SvgPage) × IsMapPage o s sets p page × (text ≡ page_text page)

-- the map of a plan of members
abbrev pub IsMap : Office → MergeSet → Plan → List ℕ → Type 0
IsMap o s p text = IsMapOfChanges o s (change_sets o s) p text
