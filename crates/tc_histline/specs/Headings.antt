-- The text of a heading.
use Rattle.std.specs.Prelude.{ℕ, List}
use Rattle.tc_histline.specs.Text.{agent_heading, centre_heading}
use Rattle.tc_histline.specs.declared.headings.Heading.{Heading}
use Rattle.tc_histline.specs.declared.headings.Heading.TheVariants.{Centre, Agent}

-- the line before what has this name
abbrev pub heading_text : Heading → List ℕ → List ℕ
heading_text Centre name = centre_heading name
heading_text Agent name = agent_heading name
