-- What is lawful over a run is lawful over a later one.
use Rattle.std.specs.Prelude.{◌==◌, Option, Some, None, Ok, Err, Vec, flat_map}
use Rattle.std.specs.Global.{Global}
use Rattle.std.specs.List.{All}
use Rattle.std.specs.HashMap.{HashMap, get_by}
use Rattle.std.proofs.Common.{◌≡◌, ◌<◌, ℕ, List, [], ◌∷◌, ◌++◌, length, map, Bool, true}
use Rattle.std.proofs.Common.{false, cond, if◌then◌else◌, refl, sym, ap, ◌∙◌, subst}
use Rattle.std.proofs.lemmas.List.{map-append}
use Rattle.std.proofs.lemmas.List.Elements.{All-nil, All-head, All-tail, All-cons, All-append, All-push}
use Rattle.ot_interp.specs.Interpretation.{identity, map_interpretation, IsWithin}
use Rattle.ot_kernel.specs.State as kernel
use Rattle.ot_kernel.specs.Candidates.{theorems_in, AreCandidates}
use Rattle.ot_theory.specs.Theory.{TagText}
use Rattle.ot_machine.specs.States as states
use Rattle.ot_machine.specs.States.{RunState, Context, fresh_article, fresh_run, no_context}
use Rattle.ot_machine.specs.Lawful.{Basis, IsLarger, IsLawfulExport, IsLawfulRun, IsLawful, GivenFits}
use Rattle.ot_machine.specs.Lawful.{Keeps, AreLawfulGivens, StatesSequent, AreApart, IsNaming}
use Rattle.ot_machine.specs.Writable.{IsWritable}
use Rattle.ot_machine.specs.LawfulLaws.{CanBeNamed, FreshIsLawful, LinesAreLawful, LawfulStays}
use Rattle.ot_machine.specs.Commanded.{LeadsTo}
use Rattle.ot_machine.specs.Meaning.{export_of, run_of, article_of, machine_state, IsRun, IsOf, IsExportIn, Grows}
use Rattle.ot_machine.specs.Answers.{NamesSymbolIn}
use Rattle.ot_machine.specs.Contexts.{given_of, context_of, IsContextOf}
use Rattle.ot_machine.specs.Rows.{is_exported}
use Rattle.ot_machine.specs.declared.session.Session.{Session}
use Rattle.ot_machine.specs.declared.machine.Export.{Export}
use Rattle.ot_machine.specs.declared.machine.Machine.{Machine}
use Rattle.ot_machine.specs.declared.context.Context as code
use Rattle.ot_machine.specs.declared.context.Given as code_given
use Rattle.ot_machine.specs.declared.fault.ArticleFault.{ArticleFault}
use Rattle.ot_machine.specs.declared.fault.ArticleFault.TheVariants as article
use Rattle.ot_machine.proofs.InContext.{context-kept}
use Rattle.ot_machine.proofs.Apart.{apart-push, not-exported}
use Rattle.ot_link.specs.Blocks.{given_by, context_in, each_once}
use Rattle.ot_link.specs.Adding.{AreRight}
use Rattle.ot_link.specs.Holding.{held_at, held_of}
use Rattle.ot_link.specs.Lawful.{basis_of, IsLawfulSession, AreLawfulExports, AreLawfulOnce}
use Rattle.ot_link.specs.Lawful.{IsLawfulContext, StaysLawful, IsReady, LeavesExports, BlocksAreNaming}
use Rattle.ot_link.proofs.Held.{exports-kept, held-as}

-- ---- sessions that stay lawful

same-larger : (r : RunState) → IsLarger (basis_of r) (basis_of r)
same-larger r = record { axioms = λ o i. i; definitions = λ o i. i; names = λ n i. i }

pub stays-same : (s : Session) → IsLawfulSession s → StaysLawful s s
stays-same s h = record { run = h; larger = same-larger (run_of s) }

-- the run is as before
pub stays-as : (s t : Session) → run_of t ≡ run_of s → IsLawfulSession s → StaysLawful s t
stays-as s t e h =
    record {
      run = subst (IsLawfulRun IsWritable) (sym e) h;
      larger = subst (λ r. IsLarger (basis_of (run_of s)) (basis_of r)) (sym e) (same-larger (run_of s));
    }

pub stays-on : {a b c : Session} → StaysLawful a b → StaysLawful b c → StaysLawful a c
stays-on h k = record {
  run = k.run;
  larger = record {
    axioms = λ o i. k.larger.axioms o (h.larger.axioms o i);
    definitions = λ o i. k.larger.definitions o (h.larger.definitions o i);
    names = λ n i. k.larger.names n (h.larger.names n i);
  };
}

-- ---- a context

-- without renamings and theorems
pub empty-context : (s : Session) (c : code.Context) → c.interp.now ≡ identity → c.theorems.now ≡ []
    → context_of s c ≡ no_context
empty-context s c i t =
    λ j. record {
      interpretation = map_interpretation (kernel.name_at s.kernel) (i j);
      theorems = map (given_of s) (t j);
    }

empty-lawful : (s : Session) (c : code.Context) → c.interp.now ≡ identity → c.theorems.now ≡ []
    → IsLawfulContext s c
empty-lawful s c i t =
    let same = empty-context s c i t in
    record {
      theorems = subst (λ x. AreLawfulGivens IsWritable (run_of s) x.theorems) (sym same)
          (All-nil (GivenFits (basis_of (run_of s))));
      naming = subst (IsNaming IsWritable) (sym same) (record { constants = λ n w. w; type_ops = λ n w. w });
    }

-- a fresh session, without renamings and theorems
pub empty-ready : (s : Session) (c : code.Context) → IsRun s → run_of s ≡ fresh_run
    → IsLawfulRun IsWritable fresh_run → c.interp.now ≡ identity → IsWithin (length s.kernel.names) c.interp.now
    → c.theorems.now ≡ [] → theorems_in c.candidates.now ≡ [] → AreCandidates s.kernel c.candidates.now → IsReady s c
empty-ready s c run start fresh i within t none found = record {
  session = run;
  lawful = subst (IsLawfulRun IsWritable) (sym start) fresh;
  context = record {
    interpretation = within;
    theorems = rw t (All-nil (λ g. g.th < length s.kernel.theorems));
    steps = rw t (All-nil (λ g. g.step < length s.trace));
    candidates = record { theorems = none ∙ ap (map (λ (g : code_given.Given). g.th)) (sym t); found = found };
  };
  lawful_context = empty-lawful s c i t;
}

-- ---- an article

module _ (old new : Session) (m n : Machine) (c : code.Context) (fresh : FreshIsLawful IsWritable)
    (lines : LinesAreLawful IsWritable) (said : CanBeNamed IsWritable) (begun : article_of old m ≡ fresh_article)
    (ready : IsReady old c) (led : LeadsTo (context_of old c) (machine_state old m) (machine_state new n))
    (grown : Grows old new) (of : IsOf new n) where
  article-keeps : Keeps IsWritable (machine_state old m) (machine_state new n)
  article-keeps =
      let start = subst (λ (a : states.ArticleState). IsLawful IsWritable (record { article = a; run = run_of old }))
      (sym begun) (fresh.1 (run_of old) ready.lawful) in
      lines (context_of old c) (machine_state old m) (machine_state new n) ready.lawful_context.naming said
      ready.lawful_context.theorems start led

  article-stays : StaysLawful old new
  article-stays = record { run = article-keeps.0.run; larger = article-keeps.1 }

  -- it stops
  pub article-refused : (e : ArticleFault) → NamesSymbolIn new.kernel e → LeavesExports NamesSymbolIn (Err e) old new
  article-refused e symbols = record {
    exports = tt;
    symbols = symbols;
    grown = grown;
    session = of.run;
    lawful = article-stays;
    lawful_exports = tt;
  }

  -- its exports are those of the machine
  pub article-left : (exports : Vec Export Global) → exports.items ≡ n.exports.items
      → LeavesExports NamesSymbolIn (Ok exports) old new
  article-left exports same =
      let state = article-keeps.0.article in
      record {
        exports = rw same of.exports;
        symbols = tt;
        grown = grown;
        session = of.run;
        lawful = article-stays;
        lawful_exports = subst (AreLawfulOnce new) (sym same)
            (record { exports = record { lawful = state.exports; stated = state.stated }; apart = state.apart });
      }

-- ---- a block

-- each sequent once
pub once-all : (P : states.Export → Type 0) (seen es : List states.Export) → All P seen → All P es
    → All P (each_once seen es)
once-all P seen [] before now = before
once-all P seen (e ∷ es) before now = once-all P (if is_exported e.sequent seen then seen else seen ++ e ∷ []) es
    (by (is_exported e.sequent seen)) (All-tail P e es now)
  where
    by : (b : Bool) → All P (if b then seen else seen ++ e ∷ [])
    by true = before
    by false = All-push P seen e before (All-head P e es now)

once-apart : (seen es : List states.Export) → AreApart (λ e. e.sequent) seen
    → AreApart (λ e. e.sequent) (each_once seen es)
once-apart seen [] apart = apart
once-apart seen (e ∷ es) apart = once-apart (if is_exported e.sequent seen then seen else seen ++ e ∷ []) es
    (by (is_exported e.sequent seen) refl)
  where
    by : (b : Bool) → is_exported e.sequent seen ≡ b
        → AreApart (λ (x : states.Export). x.sequent) (if b then seen else seen ++ e ∷ [])
    by true p = apart
    by false p = apart-push (λ (x : states.Export). x.sequent) seen e apart (not-exported e.sequent seen p)

pub once-lawful : (s : Session) (once es : List Export) → map (export_of s) once ≡ each_once [] (map (export_of s) es)
    → AreLawfulExports s es → AreLawfulOnce s once
once-lawful s once es e h =
    let P = IsLawfulExport (basis_of (run_of s)) in
    record {
      exports = record {
        lawful = subst (All P) (sym e) (once-all P [] (map (export_of s) es) (All-nil P) h.lawful);
        stated = subst (All StatesSequent) (sym e)
            (once-all StatesSequent [] (map (export_of s) es) (All-nil StatesSequent) h.stated);
      };
      apart = subst (AreApart (λ (x : states.Export). x.sequent)) (sym e)
          (once-apart [] (map (export_of s) es) (λ i j x y p q same. absurd (cc)));
    }

-- exports are given as they are proved
pub given-lawful : (b : Basis) (es : List states.Export) → All (IsLawfulExport b) es
    → All (GivenFits b) (map given_by es)
given-lawful b [] h = All-nil (GivenFits b)
given-lawful b (e ∷ es) h =
    All-cons (GivenFits b) (given_by e) (map given_by es) (All-head (IsLawfulExport b) e es h).proved
    (given-lawful b es (All-tail (IsLawfulExport b) e es h))

module _ (r : RunState) where
  -- the context of a block
  block-lawful : (outer : Context) (statements : List TagText) (es : List states.Export)
      → AreLawfulGivens IsWritable r outer.theorems → All (IsLawfulExport (basis_of r)) es
      → AreLawfulGivens IsWritable r (context_in outer statements es).theorems
  block-lawful outer statements es given h = All-append (GivenFits (basis_of r)) (map given_by es) outer.theorems
      (given-lawful (basis_of r) es h) given

-- a block's context, over a session whose run is as before
pub inner-lawful : (s t : Session) (outer inner : code.Context) (statements : List TagText) (imports : List Export)
    → run_of t ≡ run_of s
    → context_of t inner ≡ context_in (context_of s outer) statements (map (export_of s) imports) → BlocksAreNaming
    → AreRight statements
    → IsLawfulContext s outer → AreLawfulExports s imports → IsLawfulContext t inner
inner-lawful s t outer inner statements imports e same law right given h =
    let here = block-lawful (run_of s) (context_of s outer) statements (map (export_of s) imports) given.theorems
    h.lawful in
    let there : AreLawfulGivens IsWritable (run_of s) (context_of t inner).theorems =
    subst (λ c. AreLawfulGivens IsWritable (run_of s) c.theorems) (sym same) here in
    record {
      theorems = subst (λ r. AreLawfulGivens IsWritable r (context_of t inner).theorems) (sym e) there;
      naming = subst (IsNaming IsWritable) (sym same)
          (law (context_of s outer) statements (map (export_of s) imports) right given.naming);
    }

-- the exports of a list stand for the same
lawful-as : (s t : Session) (es : List Export) → map (export_of t) es ≡ map (export_of s) es
    → All (IsLawfulExport (basis_of (run_of t))) (map (export_of s) es) → All StatesSequent (map (export_of s) es)
    → AreLawfulExports t es
lawful-as s t es same lawful stated = record {
  lawful = subst (All (IsLawfulExport (basis_of (run_of t)))) (sym same) lawful;
  stated = subst (All StatesSequent) (sym same) stated;
}

pub same-exports-lawful : (s t : Session) → IsRun s → Grows s t → run_of t ≡ run_of s → (es : List Export)
    → All (IsExportIn s) es → AreLawfulExports s es → AreLawfulExports t es
same-exports-lawful s t run grown e es inside h =
    lawful-as s t es (exports-kept s t grown run es inside)
    (subst (λ r. All (IsLawfulExport (basis_of r)) (map (export_of s) es)) (sym e) h.lawful) h.stated

-- ---- what is held of earlier blocks

pub none-lawful : (s : Session) → AreLawfulOnce s []
none-lawful s = record {
  exports = record { lawful = All-nil (IsLawfulExport (basis_of (run_of s))); stated = All-nil StatesSequent };
  apart = λ i j x y p q same. absurd (cc);
}

-- those of a place are of the session
pub place-inside : {S : Type 0} (s : Session) (held : HashMap ℕ (Vec Export Global) S)
    → ((b : ℕ) → All (IsExportIn s) (held_at held b)) → (place : Option ℕ) → All (IsExportIn s) (held_of held place)
place-inside s held inside None = All-nil (IsExportIn s)
place-inside s held inside (Some b) = inside b

module _ {S : Type 0} (s : Session) (held : HashMap ℕ (Vec Export Global) S)
    (lawful : (b : ℕ) → AreLawfulOnce s (held_at held b)) where
  pub place-lawful : (place : Option ℕ) → AreLawfulOnce s (held_of held place)
  place-lawful None = none-lawful s
  place-lawful (Some b) = lawful b

  each-imported : (P : states.Export → Type 0) → ((b : ℕ) → All P (map (export_of s) (held_at held b)))
      → (places : List ℕ) → All P (map (export_of s) (flat_map (held_at held) places))
  each-imported P all [] = All-nil P
  each-imported P all (b ∷ places) =
      subst (All P) (sym (map-append (export_of s) (held_at held b) (flat_map (held_at held) places)))
      (All-append P (map (export_of s) (held_at held b)) (map (export_of s) (flat_map (held_at held) places)) (all b)
      (each-imported P all places))

  pub imported-lawful : (places : List ℕ) → AreLawfulExports s (flat_map (held_at held) places)
  imported-lawful places = record {
    lawful = each-imported (IsLawfulExport (basis_of (run_of s))) (λ b. (lawful b).exports.lawful) places;
    stated = each-imported StatesSequent (λ b. (lawful b).exports.stated) places;
  }

module _ (s t : Session) (run : IsRun s) (grown : Grows s t) (law : LawfulStays IsWritable)
    (larger : IsLarger (basis_of (run_of s)) (basis_of (run_of t))) where
  -- exports
  exports-lawful : (es : List Export) → All (IsExportIn s) es → AreLawfulOnce s es → AreLawfulOnce t es
  exports-lawful es inside h =
      let same = exports-kept s t grown run es inside in
      record {
        exports = lawful-as s t es same ((law (run_of s) (run_of t) larger).1 (map (export_of s) es) h.exports.lawful)
            h.exports.stated;
        apart = subst (AreApart (λ (x : states.Export). x.sequent)) (sym same) h.apart;
      }

  -- a context
  pub context-lawful : (c : code.Context) → IsContextOf s c → IsLawfulContext s c → IsLawfulContext t c
  context-lawful c of h =
      let same = context-kept s t run grown c of in
      record {
        theorems = subst (λ x. AreLawfulGivens IsWritable (run_of t) x.theorems) (sym same)
            ((law (run_of s) (run_of t) larger).0 (context_of s c).theorems h.theorems);
        naming = subst (IsNaming IsWritable) (sym same) h.naming;
      }

  -- the exports that are held, those of a block added
  pub held-lawful : {S : Type 0} (old new : HashMap ℕ (Vec Export Global) S) (b : ℕ) (exports : Vec Export Global)
      → ((c : ℕ) → get_by (λ key. c == key) new ≡ cond (b == c) (Some exports) (get_by (λ key. c == key) old))
      → ((c : ℕ) → All (IsExportIn s) (held_at old c)) → ((c : ℕ) → AreLawfulOnce s (held_at old c))
      → AreLawfulOnce t exports.items → (c : ℕ) → AreLawfulOnce t (held_at new c)
  held-lawful old new b exports updates inside lawful here c =
      subst (AreLawfulOnce t) (sym (held-as s t run grown old new b exports updates inside c)) (by (b == c))
    where
      by : (x : Bool) → AreLawfulOnce t (cond x exports.items (held_at old c))
      by true = here
      by false = exports-lawful (held_at old c) (inside c) (lawful c)
