-- When a state is lawful: every object is the value of its origin, and every origin rests on the run.
use Rattle.std.specs.Prelude.{◌≡◌, ℕ, ℤ, true, List, map, take, Ok, Some, slice_get}
use Rattle.std.specs.List.{All}
use Rattle.std.specs.FinMap as dictionaries
use Rattle.ot_logic.specs.Lists.{IsMember, IsPart}
use Rattle.ot_logic.specs.Names.{Name}
use Rattle.ot_logic.specs.Naming.{names}
use Rattle.ot_logic.specs.Trees.{Tm, Sequent}
use Rattle.ot_logic.specs.Hol.{same_sequent}
use Rattle.ot_logic.specs.declared.command.Cmd.{Cmd}
use Rattle.ot_logic.specs.declared.command.Cmd.TheVariants as words
use Rattle.ot_interp.specs.Interpretation.{renamed}
use Rattle.ot_trace.specs.Origins.{Origin, Origins, Number, Named, Make, Define, Outcome, NoOrigins, MoreOrigins}
use Rattle.ot_machine.specs.Objects.{Object, Objects, list, term, theorem}
use Rattle.ot_machine.specs.Places.{as_term, as_each}
use Rattle.ot_machine.specs.States.{Entry, Export, Given, Made, ArticleState, RunState, State, Context}
use Rattle.ot_machine.specs.Rows.{definitions_of}
use Rattle.ot_machine.specs.Values.{value, definition_of}

-- what origins may use: axioms, definitions, and names
pub record Basis : Type 1 where
  pub axioms : List (Origin Name)
  pub definitions : List (Origin Name)
  pub IsNamed : Name → Type 0

module _ (b : Basis) where
  -- an axiom is one of the axioms
  abbrev pub IsTaken : Cmd → Origins Name → Type 0
  IsTaken words.Axiom os = IsMember (Make words.Axiom os) b.axioms
  IsTaken _ os = Unit {0}

  -- the axioms, the definitions and the names among the parts of an origin are of the basis
  abbrev mutual
    pub RestsOn : Origin Name → Type 0
    RestsOn (Number k) = Unit {0}
    RestsOn (Named n) = b.IsNamed n
    RestsOn (Make w os) = AreOn os × IsTaken w os
    RestsOn (Define w os) = AreOn os
    RestsOn (Outcome j d) = IsMember d b.definitions × RestsOn d

    pub AreOn : Origins Name → Type 0
    AreOn NoOrigins = Unit {0}
    AreOn (MoreOrigins o os) = RestsOn o × AreOn os

  -- an object is the value of an origin that rests on the basis
  pub record Fits (o : Origin Name) (v : Object) : Type 0 where
    pub value_is : value o ≡ Ok v
    pub rests : RestsOn o

  abbrev pub EntryFits : Entry → Type 0
  EntryFits e = Fits e.origin e.object

  abbrev pub GivenFits : Given → Type 0
  GivenFits g = Fits g.origin (theorem g.sequent)

  -- the values of an export's roots are its sequent, a list of terms and a term, and they rest on the basis
  pub record IsLawfulExport (e : Export) : Type 0 where
    pub proved : Fits e.roots.theorem (theorem e.sequent)
    pub objects : Objects
    pub hyps : List (Tm Name)
    pub are_terms : as_each as_term objects ≡ Ok hyps
    pub listed : Fits e.roots.list (list objects)
    pub concl : Tm Name
    pub stated : Fits e.roots.term (term concl)

-- all that rests on the one basis rests on the other
pub record IsLarger (b c : Basis) : Type 0 where
  pub axioms : IsPart b.axioms c.axioms
  pub definitions : IsPart b.definitions c.definitions
  pub names : (n : Name) → b.IsNamed n → c.IsNamed n

-- the list and the term of an export state its sequent
abbrev pub StatesSequent : Export → Type 0
StatesSequent e = (os : Objects) (hyps : List (Tm Name)) (concl : Tm Name) → value e.roots.list ≡ Ok (list os)
    → as_each as_term os ≡ Ok hyps → value e.roots.term ≡ Ok (term concl)
    → same_sequent names e.sequent (record { hyps = hyps; concl = concl }) ≡ true

-- the axioms of these assumptions, and these definitions
abbrev pub basis_of : (Name → Type 0) → List Given → List Made → Basis
basis_of IsNamed gs ms =
    record { axioms = map (λ g. g.origin) gs; definitions = map (λ m. m.origin) ms; IsNamed = IsNamed }

abbrev pub run_basis : (Name → Type 0) → RunState → Basis
run_basis IsNamed run = basis_of IsNamed run.assumptions run.definitions

-- a command `axiom` made it
abbrev pub IsAxiom : Origin Name → Type 0
IsAxiom o = (os : Origins Name) × (o ≡ Make words.Axiom os)

-- no sequent stands at two places
abbrev pub AreApart : {X : Type 0} → (X → Sequent Name) → List X → Type 0
AreApart {X} sequent xs = (i j : ℕ) (x y : X) → slice_get xs i ≡ Some x → slice_get xs j ≡ Some y
    → same_sequent names (sequent x) (sequent y) ≡ true → i ≡ j

module _ (IsNamed : Name → Type 0) where
  -- accepted after the definitions that stand before it, and made of what rests on these
  pub record IsLawfulDefinition (run : RunState) (i : ℕ) (m : Made) : Type 0 where
    pub accepted : definition_of (definitions_of (take i run.definitions)) m.origin ≡ Ok m.definition
    pub rests : RestsOn (basis_of IsNamed run.assumptions (take i run.definitions)) m.origin

  pub record IsLawfulRun (run : RunState) : Type 0 where
    pub assumptions : All (GivenFits (run_basis IsNamed run)) run.assumptions
    pub axioms : All (λ g. IsAxiom g.origin) run.assumptions
    pub apart : AreApart (λ g. g.sequent) run.assumptions
    pub definitions : (i : ℕ) (m : Made) → slice_get run.definitions i ≡ Some m → IsLawfulDefinition run i m

  pub record IsLawfulArticle (run : RunState) (s : ArticleState) : Type 0 where
    pub stack : All (EntryFits (run_basis IsNamed run)) s.stack
    pub dictionary : (k : ℤ) (e : Entry) → dictionaries.get s.dictionary k ≡ Some e
        → EntryFits (run_basis IsNamed run) e
    pub exports : All (IsLawfulExport (run_basis IsNamed run)) s.exports
    pub stated : All StatesSequent s.exports
    pub apart : AreApart (λ e. e.sequent) s.exports

  pub record IsLawful (s : State) : Type 0 where
    pub run : IsLawfulRun s.run
    pub article : IsLawfulArticle s.run s.article

  -- the second state is lawful, and all that is lawful over the run of the first is so over its run
  abbrev pub Keeps : State → State → Type 0
  Keeps s t = IsLawful t × IsLarger (run_basis IsNamed s.run) (run_basis IsNamed t.run)

  -- theorems that come from other articles of the run
  abbrev pub AreLawfulGivens : RunState → List Given → Type 0
  AreLawfulGivens run gs = All (GivenFits (run_basis IsNamed run)) gs

-- a context reads a name that may be used as one that may be used
pub record IsNaming (IsNamed : Name → Type 0) (c : Context) : Type 0 where
  pub constants : (n : Name) → IsNamed n → IsNamed (renamed names c.interpretation.constants n)
  pub type_ops : (n : Name) → IsNamed n → IsNamed (renamed names c.interpretation.type_ops n)
