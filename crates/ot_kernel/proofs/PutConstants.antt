-- The constants of a list in the place of its variables, pair by pair, while the table grows.
use Rattle.std.specs.List.{All}
use Rattle.std.proofs.Common.{◌≡◌, ℕ, zero, suc, ◌+◌, ◌<◌, Bool, true, false, List, [], ◌∷◌}
use Rattle.std.proofs.Common.{◌++◌, map, length, get_or, take, drop, slice_get, append_assoc}
use Rattle.std.proofs.Common.{is_some, add-one, Some, refl, sym, ap, subst, ◌∙◌, inl, inr, arith}
use Rattle.std.proofs.Math.Seq.{drop-cons}
use Rattle.std.proofs.lemmas.List.{map-append, take_more}
use Rattle.std.proofs.lemmas.List.Elements.{All-nil}
use Rattle.ot_logic.specs.Lists.{IsMember, AreDistinct}
use Rattle.ot_logic.specs.Names.{Name}
use Rattle.ot_logic.specs.Trees.{Variable, Tm, Con, Named, NConst}
use Rattle.ot_logic.specs.Hol.{is_shallow, subst_tm, constants_for, sequent_of}
use Rattle.ot_logic.specs.NamedTerms.{nameless}
use Rattle.ot_logic.specs.Naming.{numbers}
use Rattle.ot_logic.proofs.TableLemmas.{Extends-refl}
use Rattle.ot_laws.specs.Walk.{nameless_map}
use Rattle.ot_laws.proofs.Tests.{tells_numbers}
use Rattle.ot_type.specs.TypeTable.{type_at}
use Rattle.ot_term.specs.Term.{TermTable}
use Rattle.ot_term.specs.TermTable.{term_at, variable_of, IsGrownTo}
use Rattle.ot_term.specs.declared.term.VarKey.{VarKey}
use Rattle.ot_term.proofs.Growing.{grown_further, type_at-Grows, variable_of-Grows}
use Rattle.ot_subst.specs.Substitution.{Substitution, term_for, with_pair, named_part}
use Rattle.ot_subst.specs.Substitution.{variable_part, substituted, IsSubstOf}
use Rattle.ot_subst.specs.Walk.{HasForm, NamesBelow, IsLater}
use Rattle.ot_subst.specs.declared.fault.SubstFault.{SubstFault}
use Rattle.ot_subst.specs.declared.fault.SubstFault.TheVariants as faults
use Rattle.ot_subst.proofs.Binders.{pair-found}
use Rattle.ot_subst.proofs.Growing.{named_part-Grows, IsSubstOf-Grows}
use Rattle.ot_kernel.specs.declared.fault.RuleFault.TheVariants as rules
use Rattle.ot_kernel.specs.Refusals.{of_subst}
use Rattle.ot_kernel.specs.Defining.{zipped}
use Rattle.ot_kernel.specs.declared.theorem.Theorem.{Theorem}
use Rattle.ot_kernel.specs.Spelled.{IsInside}
use Rattle.ot_kernel.specs.Numbered.{tm_at, numbered_sequent}
use Rattle.ot_kernel.specs.Proved.{bound_of_names}
use Rattle.ot_kernel.proofs.Equating.{tm_at-Grows, limit_at}
use Rattle.ot_kernel.proofs.Namings.{map-drop}
use Rattle.ot_kernel.proofs.NewTerms.{new_at}
use Rattle.ot_kernel.proofs.NewTypes.{name-below, bound-below}
use Rattle.ot_kernel.proofs.Leaves.{shallow-constants}
use Rattle.ot_logic.proofs.Members.{IsMember-get_or, IsMember-map}
use Rattle.ot_logic.specs.RanOut.{ran_out}

-- an element is not among those before it, where all have images of their own
distinct-before : {X Y : Type 0} (f : X → Y) (xs : List X) (k : ℕ) (x : X) → AreDistinct (map f xs) → k < length xs
    → x ≡ get_or xs k x → ¬ (IsMember x (take k xs))
distinct-before f [] k x d h e m = absurd (omega arith)
distinct-before f (y ∷ ys) zero x d h e m = m
distinct-before f (y ∷ ys) (suc k) x d h e (inl p) =
    d.0 (IsMember-map f y ys (subst (λ z. IsMember z ys) (sym e ∙ sym p) (IsMember-get_or ys k x (omega arith))))
distinct-before f (y ∷ ys) (suc k) x d h e (inr m) = distinct-before f ys k x d.1 (omega arith) e m

-- a variable that has no term yet
pushed : (s : Substitution) (v : VarKey) (id : ℕ) → ¬ (IsMember v (map (λ p. p.0) s.terms))
    → with_pair s v id ≡ record { types = s.types; terms = s.terms ++ (v, id) ∷ [] }
pushed s v id never = go (is_some (term_for s v)) refl
  where
    go : (b : Bool) → is_some (term_for s v) ≡ b
        → with_pair s v id ≡ record { types = s.types; terms = s.terms ++ (v, id) ∷ [] }
    go true e = let (p, m, same) = pair-found v s.terms e in
        absurd (never (subst (λ w. IsMember w (map (λ (q : VarKey × ℕ). q.0) s.terms)) same
        (IsMember-map (λ (q : VarKey × ℕ). q.0) p s.terms m)))
    go false e = rw e refl

-- the table before and now, and the constants of the first k variables
pub record PutsConstants (t u : TermTable) (cs : List ℕ) (vars : List VarKey) (k : ℕ) (s : Substitution) : Type
    0 where
  pub grown : IsGrownTo (bound_of_names cs) t u
  pub no_types : s.types ≡ []
  pub fits : IsSubstOf u s
  pub keys : map (λ p. p.0) s.terms ≡ take k vars
  pub made : variable_part u s
      ++ constants_for numbers (zipped numbers (drop k cs) (map (variable_of t.types) (drop k vars)))
      ≡ constants_for numbers (zipped numbers cs (map (variable_of t.types) vars))

module _ (t u : TermTable) (cs : List ℕ) (vars : List VarKey) (k : ℕ) (s : Substitution)
    (a : PutsConstants t u cs vars k s) (name : ℕ) (v : VarKey)
    (hc : k < length cs) (hv : k < length vars) (is_name : name ≡ get_or cs k name) (is_var : v ≡ get_or vars k v)
    (below : All (λ (w : VarKey). w.ty < length t.types) vars) where
  old : v.ty < length t.types
  old = subst (λ (w : VarKey). w.ty < length t.types) (sym is_var) (below k v hv)

  pub now_below : v.ty < length u.types
  now_below = let h = old in omega (arith, h, a.grown.grows.types.longer)

  module _ (w : TermTable) (id : ℕ) (g : IsGrownTo (name + 1) u w)
      (same_types : w.types ≡ u.types) (made : slice_get w.terms id ≡ Some (NConst name (type_at u.types v.ty))) where
    pub fits_then : IsSubstOf w s
    fits_then = IsSubstOf-Grows u w g.grows s a.fits

    pub grown_then : IsGrownTo (bound_of_names cs) t w
    grown_then = let h = name-below cs k name hc is_name in
        grown_further _ (name + 1) (bound_of_names cs) t u w a.grown (omega arith) g (omega (arith, h))

    -- the pair that is added
    pair_is : ◌≡◌ {A = Variable ℕ × Tm ℕ} (variable_of w.types v, nameless numbers (term_at w.terms id))
        (variable_of t.types v, Con name (type_at t.types v.ty))
    pair_is =
        let key = variable_of-Grows u w g.grows v now_below ∙ variable_of-Grows t u a.grown.grows v old in
        let term = ap (nameless numbers) (new_at w id (NConst name (type_at u.types v.ty)) made).1
        ∙ ap (Con name) (type_at-Grows t u a.grown.grows v.ty old) in
        λ i. (key i, term i)

    parts : variable_part w (record { types = s.types; terms = s.terms ++ (v, id) ∷ [] }) ≡ variable_part u s
        ++ (variable_of t.types v, Con name (type_at t.types v.ty)) ∷ []
    parts =
        let named : VarKey × ℕ → Variable ℕ × Named ℕ = λ p. (variable_of w.types p.0, term_at w.terms p.1) in
        ap (nameless_map numbers) (map-append named s.terms ((v, id) ∷ []))
        ∙ map-append _ (named_part w s) (named (v, id) ∷ [])
        ∙ (λ i. nameless_map numbers (named_part-Grows u w g.grows s a.fits i) ++ pair_is i ∷ [])

    rest : zipped numbers (drop k cs) (map (variable_of t.types) (drop k vars)) ≡ (name, variable_of t.types v)
        ∷ zipped numbers (drop (k + 1) cs) (map (variable_of t.types) (drop (k + 1) vars))
    rest =
        let firsts : drop k cs ≡ name ∷ drop (k + 1) cs = drop-cons cs k name hc
        ∙ (λ i. sym is_name i ∷ drop (sym (add-one k) i) cs) in
        let seconds = map-drop (variable_of t.types) vars k v hv is_var in
        λ i. zipped numbers (firsts i) (seconds i)

    added : IsSubstOf w (with_pair s v id) → AreDistinct (map (variable_of t.types) vars)
        → PutsConstants t w cs vars (k + 1) (with_pair s v id)
    added fits distinct = subst (PutsConstants t w cs vars (k + 1)) (sym (is_pushed)) (record {
      grown = grown_then;
      no_types = a.no_types;
      fits = subst (IsSubstOf w) is_pushed fits;
      keys = map-append (λ (p : VarKey × ℕ). p.0) s.terms ((v, id) ∷ []) ∙ (λ i. a.keys i ++ is_var i ∷ [])
          ∙ sym (take_more vars k v hv);
      made =
          let ended =
          constants_for numbers
          (zipped numbers (drop (k + 1) cs) (map (variable_of t.types) (drop (k + 1) vars))) in
          ap (λ m. m ++ ended) parts
          ∙ append_assoc (variable_part u s) ((variable_of t.types v, Con name (type_at t.types v.ty)) ∷ []) ended
          ∙ ap (λ ps. variable_part u s ++ constants_for numbers ps) (sym rest)
          ∙ a.made;
    })
      where
        is_pushed : with_pair s v id ≡ record { types = s.types; terms = s.terms ++ (v, id) ∷ [] }
        is_pushed =
            pushed s v id
            (λ m. distinct-before (variable_of t.types) vars k v distinct hv is_var (subst (IsMember v) a.keys m))

    pub constant_added : (new : Substitution) → new ≡ with_pair s v id → IsSubstOf w new
        → AreDistinct (map (variable_of t.types) vars) → PutsConstants t w cs vars (k + 1) new
    constant_added new e fits distinct =
        subst (PutsConstants t w cs vars (k + 1)) (sym e) (added (subst (IsSubstOf w) e fits) distinct)

-- ---- the theorem
-- no name is new
pub later_names : (ns : List Name) (cs : List ℕ) (t u : TermTable) → All (λ n. n < length ns) cs
    → NamesBelow (length ns) t → IsGrownTo (bound_of_names cs) t u → IsLater ns ns t u
later_names ns cs t u h below g =
    let bound = bound-below (length ns) cs h in
    record {
      extends = Extends-refl ns;
      name_table = λ k. k;
      grows = g.grows;
      table = g.table;
      names = record {
        types = omega (arith, below.types, g.names.types, bound);
        terms = omega (arith, below.types, below.terms, g.names.terms, bound);
      };
    }

module _ (t u : TermTable) (cs : List ℕ) (vars : List VarKey) (g : IsGrownTo (bound_of_names cs) t u)
    (s : Substitution) (no_types : s.types ≡ [])
    (parts : variable_part u s ≡ constants_for numbers (zipped numbers cs (map (variable_of t.types) vars)))
    (concl : ℕ) (inside : concl < length t.terms) where
  abbrev image : Tm ℕ
  image = subst_tm numbers [] (constants_for numbers (zipped numbers cs (map (variable_of t.types) vars)))
      (tm_at t.terms concl)

  pub image_is : substituted u s (tm_at u.terms concl) ≡ image
  image_is =
      let tree = tm_at-Grows t u g.grows concl inside in
      λ i. subst_tm numbers (map (λ (p : ℕ × ℕ). (p.0, type_at u.types p.1)) (no_types i)) (parts i) (tree i)

  -- constants in the place of variables pass no limit
  never_deep : is_shallow numbers (substituted u s (tm_at u.terms concl)) ≡ false → ⊥
  never_deep h =
      let shallow = limit_at u g.table concl (let l = g.grows.terms.longer in omega (arith, inside, l)) in
      let tree = tm_at-Grows t u g.grows concl inside in
      let same = ap (is_shallow numbers) image_is
      ∙ shallow-constants numbers tells_numbers (zipped numbers cs (map (variable_of t.types) vars))
      (tm_at t.terms concl) ∙ ap (is_shallow numbers) (sym tree) ∙ shallow in
      let no : true ≡ false = sym same ∙ h in
      cc

  pub only_memory : (fault : SubstFault)
      → (fault ≡ faults.Nesting → is_shallow numbers (substituted u s (tm_at u.terms concl)) ≡ false)
      → (fault ≡ faults.NotRedex → ⊥) → of_subst fault ≡ rules.Memory ran_out
  only_memory faults.Nesting deep never = absurd (never_deep (deep refl))
  only_memory faults.NotRedex deep never = absurd (never refl)
  only_memory (faults.Memory memory) deep never = refl

  pub new_sequent : (v : TermTable) (th : Theorem) → th.hyps ≡ []
      → HasForm v th.concl (substituted u s (tm_at u.terms concl)) → IsInside (length v.terms) th
      × (numbered_sequent v.terms th ≡ sequent_of numbers image)
  new_sequent v th none form =
      let tree : tm_at v.terms th.concl ≡ image = form.form ∙ image_is in (
        record {
          hyps = subst (All (λ i. i < length v.terms)) (sym none) (All-nil (λ i. i < length v.terms));
          concl = form.within;
        },
        λ i. record { hyps = map (tm_at v.terms) (none i); concl = tree i },
      )
