-- The printed text of what a log proves, over names: three sections.
use Rattle.std.specs.Prelude.{true, ℕ, List, ◌++◌, map, codes}
use Rattle.ot_logic.specs.Names.{Name}
use Rattle.ot_logic.specs.Trees.{Sequent, Definition}
use Rattle.ot_log_nodes.specs.Items.{Item}
use Rattle.ot_log_rules.specs.Statements.{sequent_at}
use Rattle.ot_log_rules.specs.Accepting.{accepted_at}
use Rattle.ot_log_rules.specs.declared.statement.Statement.{Statement}
use Rattle.ot_log_rules.specs.declared.definition.Accepted.{Accepted}
use Rattle.ot_text.specs.Texts.{ascending, sequent_text}
use Rattle.ot_text.specs.Sections.{definition_text, section_text}

-- assumptions in the order of the bytes of their texts, definitions and results in their own order
abbrev pub summary_text : List (Sequent Name) → List (Definition Name) → List (Sequent Name) → List ℕ
summary_text al dl ql =
    section_text true (codes "assumptions") (ascending (map sequent_text al))
    ++ section_text true (codes "definitions") (map definition_text dl)
    ++ section_text true (codes "theorems") (map sequent_text ql)

-- the same, by the numbers of a table
abbrev pub listed_text : List Item → List Statement → List Accepted → List Statement → List ℕ
listed_text ts al dl ql = summary_text (map (sequent_at ts) al) (map (accepted_at ts) dl) (map (sequent_at ts) ql)
