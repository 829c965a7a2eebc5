-- The exports, one after another.
use Rattle.std.proofs.Common.{◌≡◌, ℕ, zero, suc, ◌+◌, ◌<◌, ◌≤◌, inl, inr, List, [], ◌∷◌, ◌++◌, map, length}
use Rattle.std.proofs.Common.{drop, drop-cons, sym, ap, subst, ◌∙◌, get_or, arith}
use Rattle.std.proofs.Math.ListN.{drop_of_length-le}
use Rattle.std.specs.List.{All}
use Rattle.ot_leads.specs.declared.finding.Leads.{Leads}
use Rattle.ot_logic.specs.Lists.{IsMember}
use Rattle.ot_logic.proofs.Members.{IsMember-get_or, IsMember-map}
use Rattle.ot_machine.specs.Meaning.{export_of, run_of, IsExportIn}
use Rattle.ot_machine.specs.declared.session.Session.{Session}
use Rattle.ot_machine.specs.declared.machine.Export as code
use Rattle.ot_uses.specs.Ready.{theorem_steps, IsReady}
use Rattle.ot_uses.specs.Texts.{support_text, supports_text}
use Rattle.ot_uses.specs.Used.{support_of}

-- the texts of the exports from the i-th on
abbrev pub rest_text : Session → List code.Export → ℕ → List ℕ
rest_text s es i = supports_text (suc i) (map (support_of (run_of s)) (map (export_of s) (drop i es)))

pub rest-more : (s : Session) (es : List code.Export) (i : ℕ) (e : code.Export) → i < length es → e ≡ get_or es i e
    → rest_text s es i ≡ support_text (i + 1) (support_of (run_of s) (export_of s e)) ++ rest_text s es (i + 1)
rest-more s es i e h at =
    let n : suc i ≡ i + 1 = omega arith in
    ap (λ l. supports_text (suc i) (map (support_of (run_of s)) (map (export_of s) l))) (drop-cons es i e h)
    ∙ (λ z. support_text (n z) (support_of (run_of s) (export_of s (sym at z))) ++ rest_text s es (n z))

pub rest-end : (s : Session) (es : List code.Export) (i : ℕ) → length es ≤ i → rest_text s es i ≡ []
rest-end s es i h = ap (λ l. supports_text (suc i) (map (support_of (run_of s)) (map (export_of s) l)))
    (drop_of_length-le es h)

-- each of the theorems is ready where all are
pub ready-one : (s : Session) (es : List code.Export) (l : Leads) (i : ℕ) (e : code.Export) → i < length es
    → e ≡ get_or es i e → IsReady s (theorem_steps es) l → IsReady s (e.theorem ∷ []) l
ready-one s es l i e h at r = record {
  met = r.met;
  parts = record {
    length_is = r.parts.length_is;
    own = r.parts.own;
    roots_met = λ j m. elim m [
      | inl q ↦ r.parts.roots_met j (subst (λ z. IsMember z (theorem_steps es)) q
          (IsMember-map (λ (e : code.Export). e.theorem) e es
          (subst (λ z. IsMember z es) (sym at) (IsMember-get_or es i e h))))
      | inr never ↦ absurd never
    ];
    definitions_met = r.parts.definitions_met;
    parts_met = r.parts.parts_met;
  };
  given_inside = r.given_inside;
  assumptions = r.assumptions;
  definitions = r.definitions;
}

-- the steps of theorems are of the trace
pub steps-inside : (s : Session) (es : List code.Export) → All (IsExportIn s) es
    → All (λ i. i < length s.trace) (theorem_steps es)
steps-inside s [] h k d l = absurd (omega (arith, l))
steps-inside s (e ∷ es) h zero d l = let inside = h 0 e (omega arith) in inside.theorem
steps-inside s (e ∷ es) h (suc k) d l =
    steps-inside s es (λ j x m. h (suc j) x (omega (arith, m))) k d (omega (arith, l))
