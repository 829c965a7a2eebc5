-- A line's refusal is that of the first of its refused parts, and these stand in the order in which they count.
use Rattle.std.specs.Prelude.{◌≡◌, ◌≤◌, ℕ, ◌+◌, true, List, [], ◌∷◌, ◌++◌, length, Result, Ok, Err}
use Rattle.std.specs.List.{AllByRecursion}
use Rattle.std.proofs.Common.{refl, subst, inl, arith, length-append}
use Rattle.ot_logic.specs.Answers.{◌>>=◌}
use Rattle.ot_logic.specs.Names.{Name}
use Rattle.ot_logic.specs.Naming.{names}
use Rattle.ot_logic.specs.Trees.{Tm, Sequent, Symbol}
use Rattle.ot_logic.specs.Hol.{once_each}
use Rattle.ot_forms.specs.Forms.{Written, IsWritten, term_text, further_hyps, hyps_text, WrittenSequent}
use Rattle.ot_forms.specs.Meaning.{Refusal, meaning, meanings, line_meaning}
use Rattle.ot_forms.specs.Parts.{Part, CountsBefore, parts, hyps_parts, line_parts, end_of, AreOrdered}
use Rattle.ot_forms.proofs.FirstRefusal.{Agrees, agrees-then, agrees, all-to, ordered-append, IsIn, AreIn, parts-in}
use Rattle.ot_logic.proofs.Elements.{AllByRecursion-append}

-- parts of a text, and parts of another behind it
behind : (lo mid from hi : ℕ) (ps qs : List Part) → AreIn lo mid ps → AreIn from hi qs → lo ≤ from → mid ≤ from
    → mid ≤ hi → AreIn lo hi (ps ++ qs)
behind lo mid from hi ps qs h w a b c = record {
  ordered =
      ordered-append ps qs h.ordered w.ordered
      (all-to (IsIn lo mid) (λ p. AllByRecursion (CountsBefore p) qs) ps
      (λ p i. all-to (IsIn from hi) (CountsBefore p) qs
      (λ q j. inl (let t = i.to in let u = j.past in omega (arith, t, u, b))) w.inside) h.inside);
  inside = AllByRecursion-append (IsIn lo hi) ps qs
      (all-to (IsIn lo mid) (IsIn lo hi) ps
      (λ p i. record { from = i.from; past = i.past; to = (let t = i.to in omega (arith, t, c)) }) h.inside)
      (all-to (IsIn from hi) (IsIn lo hi) qs
      (λ q j. record {
        from = (let t = j.from in omega (arith, t, a));
        past = (let t = j.past in omega (arith, t, a));
        to = j.to;
      }) w.inside);
}

module _ (hidden : List (Symbol Name)) where
  -- the bytes of the hypotheses with a comma and a space behind each
  abbrev span : List Written → ℕ
  span [] = 0
  span (a ∷ more) = length (term_text hidden a) + 2 + span more

  hyps-in : (k : ℕ) (hs : List Written) → AllByRecursion IsWritten hs → AreIn k (k + span hs) (hyps_parts hidden k hs)
  hyps-in k [] h = record { ordered = tt; inside = tt }
  hyps-in k (a ∷ more) h =
      let n = k + 2 + length (term_text hidden a) in
      let rest : AreIn n (n + span more) (hyps_parts hidden n more) = hyps-in n more h.1 in
      let e : n + span more ≡ k + span (a ∷ more) = omega arith in
      behind k (end_of hidden k a) n (k + span (a ∷ more)) (parts hidden [] true k a) (hyps_parts hidden n more)
      (parts-in hidden [] true k a h.0) (subst (λ z. AreIn n z (hyps_parts hidden n more)) e rest) (omega arith)
      (omega arith) (omega arith)

  further-long : (hs : List Written) → span hs + 2 ≤ length (further_hyps hidden hs)
  further-long [] = omega arith
  further-long (a ∷ more) = let n = length-append (term_text hidden a) (further_hyps hidden more) in
      let w = further-long more in omega (arith, n, w)

  hyps-long : (hs : List Written) → span hs ≤ length (hyps_text hidden hs)
  hyps-long [] = omega arith
  hyps-long (a ∷ more) =
      let n : length (hyps_text hidden (a ∷ more)) ≡ length (term_text hidden a) + length (further_hyps hidden more) =
      length-append (term_text hidden a) (further_hyps hidden more) in
      let w = further-long more in omega (arith, n, w)

  hyps-agree : (k : ℕ) (hs : List Written) → Agrees (meanings hidden k hs) (hyps_parts hidden k hs)
  hyps-agree k [] = refl
  hyps-agree k (a ∷ more) =
      let n = k + 2 + length (term_text hidden a) in
      agrees-then (meaning hidden [] true k a) (parts hidden [] true k a) (hyps_parts hidden n more)
      (λ h. meanings hidden n more >>= λ hs. Ok (h ∷ hs)) (agrees hidden [] true k a)
      (λ h e. made h (meanings hidden n more) (hyps_parts hidden n more) (hyps-agree n more))
    where
      made : (h : Tm Name) (o : Result (List (Tm Name)) Refusal) (ps : List Part) → Agrees o ps
          → Agrees {A = List (Tm Name)} (o >>= λ hs. Ok (h ∷ hs)) ps
      made h (Ok hs) ps w = w
      made h (Err r) ps w = w

  pub line-agrees : (q : WrittenSequent) → Agrees (line_meaning hidden q) (line_parts hidden q)
  line-agrees q =
      let k = length (hyps_text hidden q.hyps) in
      agrees-then (meanings hidden 0 q.hyps) (hyps_parts hidden 0 q.hyps) (parts hidden [] true k q.concl)
      (λ hs. meaning hidden [] true k q.concl >>= λ c. Ok (record { hyps = once_each names hs; concl = c }))
      (hyps-agree 0 q.hyps) (λ hs e. made hs (meaning hidden [] true k q.concl) (parts hidden [] true k q.concl)
      (agrees hidden [] true k q.concl))
    where
      made : (hs : List (Tm Name)) (o : Result (Tm Name) Refusal) (ps : List Part) → Agrees o ps
          → Agrees {A = Sequent Name} (o >>= λ c. Ok (record { hyps = once_each names hs; concl = c })) ps
      made hs (Ok c) ps w = w
      made hs (Err r) ps w = w

  pub line-ordered : (q : WrittenSequent) → AllByRecursion IsWritten q.hyps → IsWritten q.concl
      → AreOrdered (line_parts hidden q)
  line-ordered q h c =
      let k = length (hyps_text hidden q.hyps) in
      let w = hyps-long q.hyps in
      (behind 0 (0 + span q.hyps) k (end_of hidden k q.concl) (hyps_parts hidden 0 q.hyps)
      (parts hidden [] true k q.concl) (hyps-in 0 q.hyps h) (parts-in hidden [] true k q.concl c) (omega arith)
      (omega (arith, w)) (omega (arith, w))).ordered
