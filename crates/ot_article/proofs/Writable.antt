-- What is asked of definitions and exports, so that their article runs; and what it then is.
use Rattle.std.specs.Prelude.{◌≡◌, Bool, true, false, List, [], ◌∷◌, ◌++◌, map, Ok}
use Rattle.ot_logic.specs.Names.{Name}
use Rattle.ot_logic.specs.Naming.{names}
use Rattle.ot_logic.specs.Trees.{Tm, Sequent}
use Rattle.ot_logic.specs.Hol.{same_sequent}
use Rattle.ot_logic.specs.Lists.{IsMember, AreDistinct}
use Rattle.ot_logic.specs.declared.command.Cmd.{Cmd}
use Rattle.ot_trace.specs.Origins.{Origin, Origins, Define, Roots, parts}
use Rattle.ot_written.specs.Written.{Text, roots_of}
use Rattle.ot_written.proofs.Settled.{EachOutcome, EachOutcomes, IsTheoremOf}
use Rattle.ot_machine.specs.Objects.{Objects, list, term, theorem}
use Rattle.ot_machine.specs.States.{Export, Given, Made, State}
use Rattle.ot_machine.specs.Places.{as_each, as_term}
use Rattle.ot_machine.specs.Rows.{definitions_of, is_exported}
use Rattle.ot_machine.specs.Values.{value, definition_of}
use Rattle.ot_machine.specs.Lawful.{IsAxiom}
use Rattle.ot_machine.specs.Marks.{fresh}
use Rattle.ot_article.specs.Article.{origins_made}
use Rattle.ot_article.proofs.LineRun.{run, marks}

-- no two axioms among these origins are one sequent
abbrev pub AxiomsApart : List (Origin Name) → Type 0
AxiomsApart ms = (a b : Origin Name) (p q : Sequent Name) → IsMember a ms → IsMember b ms → IsAxiom a → IsAxiom b
    → value a ≡ Ok (theorem p) → value b ≡ Ok (theorem q) → same_sequent names p q ≡ true → a ≡ b

-- ---- definitions and exports that can be written

module _ (used : Origin Name → Bool) where
  -- a definition that the machine accepts after these
  pub record IsWritableDefinition (earlier : List Made) (m : Made) : Type 0 where
    pub word : Cmd
    pub operands : Origins Name
    pub is : m.origin ≡ Define word operands
    pub settled : EachOutcomes (IsTheoremOf used (origins_made earlier)) operands
    pub accepted : definition_of (definitions_of earlier) m.origin ≡ Ok m.definition

  abbrev pub AreWritable : List Made → List Made → Type 0
  AreWritable earlier [] = Unit {0}
  AreWritable earlier (m ∷ ms) = IsWritableDefinition earlier m × AreWritable (earlier ++ m ∷ []) ms

  -- the roots of an export have values: its sequent, and a list and a term that match it
  pub record IsWritableExport (ds : List (Origin Name)) (e : Export) : Type 0 where
    pub settled : EachOutcome (IsTheoremOf used ds) e.roots.theorem × EachOutcome (IsTheoremOf used ds) e.roots.list
        × EachOutcome (IsTheoremOf used ds) e.roots.term
    pub objects : Objects
    pub hyps : List (Tm Name)
    pub concl : Tm Name
    pub theorem_is : value e.roots.theorem ≡ Ok (theorem e.sequent)
    pub list_is : value e.roots.list ≡ Ok (list objects)
    pub terms_are : as_each as_term objects ≡ Ok hyps
    pub term_is : value e.roots.term ≡ Ok (term concl)
    pub matches : same_sequent names e.sequent (record { hyps = hyps; concl = concl }) ≡ true

  -- none is the sequent of an earlier one
  abbrev pub AreExports : List (Origin Name) → List Export → List Export → Type 0
  AreExports ds earlier [] = Unit {0}
  AreExports ds earlier (e ∷ es) = IsWritableExport ds e × (is_exported e.sequent earlier ≡ false)
      × AreExports ds (earlier ++ e ∷ []) es

abbrev pub roots_in : List Export → List (Roots Name)
roots_in = map (λ e. e.roots)

-- ---- the article

-- a part of a root or of a definition
abbrev pub IsNeeded : List (Origin Name) → List (Origin Name) → Origin Name → Type 0
IsNeeded ds roots o = (r : Origin Name) × IsMember r (ds ++ roots) × IsMember o (parts r)

-- the text is an article of these exports and definitions
pub record IsArticleOf (ms : List Made) (es : List Export) (t : Text Name) : Type 0 where
  pub now : State
  -- it runs to its end, in the empty context, from nothing, and exports the same in the same order
  pub runs : run t.lines fresh ≡ Ok now
  pub exports : now.article.exports ≡ es
  -- the definitions are these in their order; the assumptions those of the needed axioms, each once
  pub definitions : now.run.definitions ≡ ms
  pub assumed : (g : Given) → IsMember g now.run.assumptions → IsNeeded (origins_made ms) (roots_of (roots_in es))
      g.origin × IsAxiom g.origin × (value g.origin ≡ Ok (theorem g.sequent))
  pub assumes : (o : Origin Name) (q : Sequent Name) → IsNeeded (origins_made ms) (roots_of (roots_in es)) o
      → IsAxiom o → value o ≡ Ok (theorem q) → IsMember (record { sequent = q; origin = o }) now.run.assumptions
  pub once : AreDistinct now.run.assumptions
  pub one : (g h : Given) → IsMember g now.run.assumptions → IsMember h now.run.assumptions
      → same_sequent names g.sequent h.sequent ≡ true → g ≡ h
  -- it is lean: no two lines have one mark, and each mark is needed
  pub distinct : AreDistinct (marks t.lines fresh)
  pub needed : (o : Origin Name) → IsMember o (marks t.lines fresh)
      → IsNeeded (origins_made ms) (roots_of (roots_in es)) o
