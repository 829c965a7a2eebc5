-- What is read of the operands of a theorem and of a definition.
use Rattle.std.specs.Prelude.{◌≡◌, ℕ, true, List, [], ◌∷◌, Result, Ok}
use Rattle.std.proofs.Common.{refl, ap, ◌∙◌, arith}
use Rattle.ot_logic.specs.Names.{Name}
use Rattle.ot_logic.specs.Trees.{Sequent}
use Rattle.ot_logic.specs.Naming.{names}
use Rattle.ot_logic.specs.Rules.{app_thm_rule, deduct_antisym_rule, eq_mp_rule, prove_hyp_rule, sym_rule, trans_rule}
use Rattle.ot_logic.specs.Faults.{Fault}
use Rattle.ot_logic.specs.Answers.{◌>>=◌}
use Rattle.ot_logic.specs.declared.command.Cmd.{Cmd}
use Rattle.ot_logic.specs.declared.command.Cmd.TheVariants as words
use Rattle.ot_trace.specs.Origins.{Origin, Origins, Make, Define, NoOrigins, MoreOrigins}
use Rattle.ot_machine.specs.Objects.{Object, theorem}
use Rattle.ot_machine.specs.Places.{as_name, as_list, as_variable, as_term, as_theorem, as_each}
use Rattle.ot_machine.specs.DefinitionLists.{definition_pair, pairs_of}
use Rattle.ot_machine.specs.Substitutions.{maps_of}
use Rattle.ot_machine.specs.Makers.{arity, maker, refl_made, assume_made, beta_conv_made, abs_thm_made, subst_made}
use Rattle.ot_machine.specs.Makers.{axiom_made, of_two, one_theorem_made, two_theorems_made}
use Rattle.ot_machine.specs.Values.{value, values, applied, defines}
use Rattle.ot_machine.specs.Meaning.{origin_of}
use Rattle.ot_machine.specs.declared.session.Session.{Session}
use Rattle.ot_log_law.specs.Derived.{makes_theorem}
use Rattle.ot_log_values.specs.Steps.{Reads, of_list, origins_of}
use Rattle.ot_log_values.proofs.Making.{one-made, two-made}
use Rattle.ot_log_values.proofs.Taking.{readable}
use Rattle.ot_log_words.specs.Recording.{HasResult}
use Rattle.ot_log.specs.Keeping.{IsDefinable}
use Rattle.ot_log.specs.Ready.{IsProof}
use Rattle.ot_log.specs.Working.{TakesTerm, TakesTheorems}
use Rattle.ot_log.proofs.Accepted.{accepted}
use Rattle.ot_logic.proofs.Results.{bind-ok, same_Ok}

-- ---- theorems
pub takes-term : (w : Cmd) → makes_theorem w ≡ true → arity (maker w) ≡ 1 → (w ≡ words.Sym → ⊥) → TakesTerm w
takes-term words.Refl m e n = tt
takes-term words.Assume m e n = tt
takes-term words.BetaConv m e n = tt
takes-term words.Sym m e n = absurd (n refl)
takes-term words.EqMp m e n = absurd (omega (arith, e))
takes-term words.AbsThm m e n = absurd (omega (arith, e))
takes-term words.AppThm m e n = absurd (omega (arith, e))
takes-term words.DeductAntisym m e n = absurd (omega (arith, e))
takes-term words.Subst m e n = absurd (omega (arith, e))
takes-term words.Trans m e n = absurd (omega (arith, e))
takes-term words.ProveHyp m e n = absurd (omega (arith, e))
takes-term words.Axiom m e n = absurd (omega (arith, e))
takes-term _ m e n = absurd (cc)

pub takes-theorems : (w : Cmd) → makes_theorem w ≡ true → arity (maker w) ≡ 2 → (w ≡ words.Axiom → ⊥)
    → (w ≡ words.AbsThm → ⊥) → (w ≡ words.Subst → ⊥) → TakesTheorems w
takes-theorems words.EqMp m e a b c = tt
takes-theorems words.AppThm m e a b c = tt
takes-theorems words.DeductAntisym m e a b c = tt
takes-theorems words.Trans m e a b c = tt
takes-theorems words.ProveHyp m e a b c = tt
takes-theorems words.Axiom m e a b c = absurd (a refl)
takes-theorems words.AbsThm m e a b c = absurd (b refl)
takes-theorems words.Subst m e a b c = absurd (c refl)
takes-theorems words.Refl m e a b c = absurd (omega (arith, e))
takes-theorems words.Assume m e a b c = absurd (omega (arith, e))
takes-theorems words.BetaConv m e a b c = absurd (omega (arith, e))
takes-theorems words.Sym m e a b c = absurd (omega (arith, e))
takes-theorems _ m e a b c = absurd (cc)

-- what reads as a theorem is one
theorem-is : (v : Object) (q : Sequent Name) → as_theorem v ≡ Ok q → v ≡ theorem q
theorem-is (theorem p) q h = ap theorem (same_Ok p q h)
theorem-is _ q h = absurd (cc)

proof-of : (o : Origin Name) (v : Object) → value o ≡ Ok v → HasResult (as_theorem v) → IsProof o
proof-of o v e h = (h.0, e ∙ ap Ok (theorem-is v h.0 h.1))

two-proofs : (rule : Sequent Name → Sequent Name → Result (Sequent Name) (Fault Name)) (o p : Origin Name) (v : Object)
    → ((value o >>= λ x. (value p >>= λ y. Ok (y ∷ [])) >>= λ ys. Ok (x ∷ ys))
    >>= applied (of_two (two_theorems_made rule))) ≡ Ok v
    → IsProof o × IsProof p
two-proofs rule o p v h =
    let t = two-made (two_theorems_made rule) o p v h in
    let c = bind-ok (as_theorem t.top) _ _ t.made in
    let d = bind-ok (as_theorem t.below) _ _ c.2 in
    (proof-of o t.below t.below_is (d.0, d.1), proof-of p t.top t.top_is (c.0, c.1))

module _ (s : Session) where
  pub term-taken : (w : Cmd) (a : ℕ) → TakesTerm w → HasResult (value (Make w (origins_of s (a ∷ []))))
      → Reads as_term (origin_of s a)
  term-taken words.Refl a m h =
      let t = one-made refl_made (origin_of s a) h.0 h.1 in
      let b = bind-ok (as_term t.top) _ _ t.made in readable as_term (origin_of s a) t.top t.top_is (b.0, b.1)
  term-taken words.Assume a m h =
      let t = one-made assume_made (origin_of s a) h.0 h.1 in
      let b = bind-ok (as_term t.top) _ _ t.made in readable as_term (origin_of s a) t.top t.top_is (b.0, b.1)
  term-taken words.BetaConv a m h =
      let t = one-made beta_conv_made (origin_of s a) h.0 h.1 in
      let b = bind-ok (as_term t.top) _ _ t.made in readable as_term (origin_of s a) t.top t.top_is (b.0, b.1)
  term-taken _ a m h = absurd m

  pub abs_thm-taken : (v a : ℕ) → HasResult (value (Make words.AbsThm (origins_of s (v ∷ a ∷ []))))
      → Reads as_variable (origin_of s v)
  abs_thm-taken v a h =
      let t = two-made abs_thm_made (origin_of s v) (origin_of s a) h.0 h.1 in
      let b = bind-ok (as_theorem t.top) _ _ t.made in
      let d = bind-ok (as_variable t.below) _ _ b.2 in
      readable as_variable (origin_of s v) t.below t.below_is (d.0, d.1)

  pub axiom-taken : (list p : ℕ) → HasResult (value (Make words.Axiom (origins_of s (list ∷ p ∷ []))))
      → Reads (of_list (as_each as_term)) (origin_of s list) × Reads as_term (origin_of s p)
  axiom-taken list p h =
      let t = two-made axiom_made (origin_of s list) (origin_of s p) h.0 h.1 in
      let b = bind-ok (as_term t.top) _ _ t.made in
      let d = bind-ok (as_list t.below >>= as_each as_term) _ _ b.2 in (
        readable (of_list (as_each as_term)) (origin_of s list) t.below t.below_is (d.0, d.1),
        readable as_term (origin_of s p) t.top t.top_is (b.0, b.1),
      )

  pub subst-taken : (list a : ℕ) → HasResult (value (Make words.Subst (origins_of s (list ∷ a ∷ []))))
      → Reads (of_list maps_of) (origin_of s list)
  subst-taken list a h =
      let t = two-made subst_made (origin_of s list) (origin_of s a) h.0 h.1 in
      let b = bind-ok (as_theorem t.top) _ _ t.made in
      let d = bind-ok (as_list t.below) _ _ b.2 in
      let e = bind-ok (maps_of d.0) _ _ d.2 in
      readable (of_list maps_of) (origin_of s list) t.below t.below_is
      (e.0, ap (λ r. r >>= maps_of) d.1 ∙ e.1)

  -- ---- of theorems

  pub sym-proof : (a : ℕ) → HasResult (value (Make words.Sym (origins_of s (a ∷ [])))) → IsProof (origin_of s a)
  sym-proof a h =
      let t = one-made (one_theorem_made (sym_rule names)) (origin_of s a) h.0 h.1 in
      let b = bind-ok (as_theorem t.top) _ _ t.made in proof-of (origin_of s a) t.top t.top_is (b.0, b.1)

  pub abs_thm-proof : (v a : ℕ) → HasResult (value (Make words.AbsThm (origins_of s (v ∷ a ∷ []))))
      → IsProof (origin_of s a)
  abs_thm-proof v a h =
      let t = two-made abs_thm_made (origin_of s v) (origin_of s a) h.0 h.1 in
      let b = bind-ok (as_theorem t.top) _ _ t.made in proof-of (origin_of s a) t.top t.top_is (b.0, b.1)

  pub subst-proof : (list a : ℕ) → HasResult (value (Make words.Subst (origins_of s (list ∷ a ∷ []))))
      → IsProof (origin_of s a)
  subst-proof list a h =
      let t = two-made subst_made (origin_of s list) (origin_of s a) h.0 h.1 in
      let b = bind-ok (as_theorem t.top) _ _ t.made in proof-of (origin_of s a) t.top t.top_is (b.0, b.1)

  pub theorems-proofs : (w : Cmd) (a b : ℕ) → TakesTheorems w
      → HasResult (value (Make w (origins_of s (a ∷ b ∷ []))))
      → IsProof (origin_of s a) × IsProof (origin_of s b)
  theorems-proofs words.EqMp a b m h = two-proofs (eq_mp_rule names) (origin_of s a) (origin_of s b) h.0 h.1
  theorems-proofs words.AppThm a b m h = two-proofs (app_thm_rule names) (origin_of s a) (origin_of s b) h.0 h.1
  theorems-proofs words.DeductAntisym a b m h =
      two-proofs (deduct_antisym_rule names) (origin_of s a) (origin_of s b) h.0 h.1
  theorems-proofs words.Trans a b m h = two-proofs (trans_rule names) (origin_of s a) (origin_of s b) h.0 h.1
  theorems-proofs words.ProveHyp a b m h =
      two-proofs (prove_hyp_rule names) (origin_of s a) (origin_of s b) h.0 h.1
  theorems-proofs _ a b m h = absurd m

-- ---- the values of operands, one after another
record IsFirst (o : Origin Name) (os : Origins Name) (vs : List Object) : Type 0 where
  first : Object
  first_is : value o ≡ Ok first
  rest : List Object
  rest_are : values os ≡ Ok rest
  are : first ∷ rest ≡ vs

first-of : (o : Origin Name) (os : Origins Name) (vs : List Object) → values (MoreOrigins o os) ≡ Ok vs
    → IsFirst o os vs
first-of o os vs h =
    let a = bind-ok (value o) _ _ h in
    let b = bind-ok (values os) _ _ a.2 in
    record { first = a.0; first_is = a.1; rest = b.0; rest_are = b.1; are = same_Ok (a.0 ∷ b.0) vs b.2 }

no-more : (vs : List Object) → values NoOrigins ≡ Ok vs → [] ≡ vs
no-more vs h = same_Ok [] vs h

-- ---- definitions
module _ (s : Session) where
  pub constant-taken : (n t : ℕ) → IsDefinable (Define words.DefineConst (origins_of s (n ∷ t ∷ [])))
      → Reads as_name (origin_of s n) × Reads as_term (origin_of s t)
  constant-taken n t h =
      let (ds, vs, p, d) = accepted s words.DefineConst (n ∷ t ∷ []) h in
      let x = first-of (origin_of s n) (MoreOrigins (origin_of s t) NoOrigins) vs p in
      let y = first-of (origin_of s t) NoOrigins x.rest x.rest_are in
      let are : x.first ∷ y.first ∷ [] ≡ vs =
      ap (λ us. x.first ∷ y.first ∷ us) (no-more y.rest y.rest_are) ∙ ap (λ us. x.first ∷ us) y.are ∙ x.are in
      let e = ap (defines words.DefineConst ds) are ∙ d.1 in
      let a = bind-ok (as_term y.first) _ _ e in
      let b = bind-ok (as_name x.first) _ _ a.2 in (
        readable as_name (origin_of s n) x.first x.first_is (b.0, b.1),
        readable as_term (origin_of s t) y.first y.first_is (a.0, a.1),
      )

  pub constants-taken : (list a : ℕ) → IsDefinable (Define words.DefineConstList (origins_of s (list ∷ a ∷ [])))
      → Reads (of_list (as_each definition_pair)) (origin_of s list)
  constants-taken list a h =
      let (ds, vs, p, d) = accepted s words.DefineConstList (list ∷ a ∷ []) h in
      let x = first-of (origin_of s list) (MoreOrigins (origin_of s a) NoOrigins) vs p in
      let y = first-of (origin_of s a) NoOrigins x.rest x.rest_are in
      let are : x.first ∷ y.first ∷ [] ≡ vs =
      ap (λ us. x.first ∷ y.first ∷ us) (no-more y.rest y.rest_are) ∙ ap (λ us. x.first ∷ us) y.are ∙ x.are in
      let e = ap (defines words.DefineConstList ds) are ∙ d.1 in
      let b = bind-ok (as_theorem y.first) _ _ e in
      let k = bind-ok (as_list x.first) _ _ b.2 in
      let l = bind-ok (pairs_of k.0) _ _ k.2 in
      readable (of_list (as_each definition_pair)) (origin_of s list) x.first x.first_is
      (l.0, ap (λ r. r >>= as_each definition_pair) k.1 ∙ l.1)

  pub constants-proof : (list a : ℕ) → IsDefinable (Define words.DefineConstList (origins_of s (list ∷ a ∷ [])))
      → IsProof (origin_of s a)
  constants-proof list a h =
      let (ds, vs, p, d) = accepted s words.DefineConstList (list ∷ a ∷ []) h in
      let x = first-of (origin_of s list) (MoreOrigins (origin_of s a) NoOrigins) vs p in
      let y = first-of (origin_of s a) NoOrigins x.rest x.rest_are in
      let are : x.first ∷ y.first ∷ [] ≡ vs =
      ap (λ us. x.first ∷ y.first ∷ us) (no-more y.rest y.rest_are) ∙ ap (λ us. x.first ∷ us) y.are ∙ x.are in
      let e = ap (defines words.DefineConstList ds) are ∙ d.1 in
      let b = bind-ok (as_theorem y.first) _ _ e in
      proof-of (origin_of s a) y.first y.first_is (b.0, b.1)

  -- the operands of a definition of a type operator, each as it is read
  pub record AreTaken (n abs rep list a : ℕ) : Type 0 where
    pub operator : Reads as_name (origin_of s n)
    pub to : Reads as_name (origin_of s abs)
    pub from : Reads as_name (origin_of s rep)
    pub vars : Reads (of_list (as_each as_name)) (origin_of s list)
    pub proof : IsProof (origin_of s a)

  pub type_operator-taken : (n abs rep list a : ℕ)
      → IsDefinable (Define words.DefineTypeOp (origins_of s (n ∷ abs ∷ rep ∷ list ∷ a ∷ [])))
      → AreTaken n abs rep list a
  type_operator-taken n abs rep list a h =
      let (ds, vs, p, d) = accepted s words.DefineTypeOp (n ∷ abs ∷ rep ∷ list ∷ a ∷ []) h in
      let o4 = MoreOrigins (origin_of s a) NoOrigins in
      let o3 = MoreOrigins (origin_of s list) o4 in
      let o2 = MoreOrigins (origin_of s rep) o3 in
      let o1 = MoreOrigins (origin_of s abs) o2 in
      let x0 = first-of (origin_of s n) o1 vs p in
      let x1 = first-of (origin_of s abs) o2 x0.rest x0.rest_are in
      let x2 = first-of (origin_of s rep) o3 x1.rest x1.rest_are in
      let x3 = first-of (origin_of s list) o4 x2.rest x2.rest_are in
      let x4 = first-of (origin_of s a) NoOrigins x3.rest x3.rest_are in
      let r3 = ap (λ us. x4.first ∷ us) (no-more x4.rest x4.rest_are) ∙ x4.are in
      let r2 = ap (λ us. x3.first ∷ us) r3 ∙ x3.are in
      let r1 = ap (λ us. x2.first ∷ us) r2 ∙ x2.are in
      let r0 = ap (λ us. x1.first ∷ us) r1 ∙ x1.are in
      let are : x0.first ∷ x1.first ∷ x2.first ∷ x3.first ∷ x4.first ∷ [] ≡ vs =
      ap (λ us. x0.first ∷ us) r0 ∙ x0.are in
      let e = ap (defines words.DefineTypeOp ds) are ∙ d.1 in
      let b = bind-ok (as_theorem x4.first) _ _ e in
      let k = bind-ok (as_list x3.first >>= as_each as_name) _ _ b.2 in
      let l = bind-ok (as_name x2.first) _ _ k.2 in
      let m = bind-ok (as_name x1.first) _ _ l.2 in
      let q = bind-ok (as_name x0.first) _ _ m.2 in
      record {
        operator = readable as_name (origin_of s n) x0.first x0.first_is (q.0, q.1);
        to = readable as_name (origin_of s abs) x1.first x1.first_is (m.0, m.1);
        from = readable as_name (origin_of s rep) x2.first x2.first_is (l.0, l.1);
        vars = readable (of_list (as_each as_name)) (origin_of s list) x3.first x3.first_is (k.0, k.1);
        proof = proof-of (origin_of s a) x4.first x4.first_is (b.0, b.1);
      }
