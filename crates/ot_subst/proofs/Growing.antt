-- What stays when a table grows.
use Rattle.std.proofs.Common.{◌≡◌, ℕ, ◌<◌, ◌≤◌, inl, inr, List, [], ◌∷◌}
use Rattle.std.proofs.Common.{map, length, refl, sym, ap, subst, ◌∙◌, arith}
use Rattle.std.specs.List.{All}
use Rattle.std.proofs.lemmas.List.Elements.{All-head, All-tail}
use Rattle.ot_logic.specs.Lists.{IsMember}
use Rattle.ot_logic.specs.Names.{Name}
use Rattle.ot_logic.specs.Trees.{Variable, Tm, Named}
use Rattle.ot_logic.specs.Hol.{inst, IsTyped}
use Rattle.ot_logic.specs.NamedTerms.{nameless}
use Rattle.ot_logic.specs.Naming.{numbers}
use Rattle.ot_logic.proofs.TableLemmas.{Extends-refl, Extends-trans}
use Rattle.ot_laws.specs.Walk.{nameless_map}
use Rattle.ot_type.proofs.TypeTableLemmas.{type_at-Extends}
use Rattle.ot_type.proofs.InstLemmas.{images-Extends}
use Rattle.ot_term.specs.Term.{TermTable}
use Rattle.ot_term.specs.TermTable.{term_at, variable_of, Grows, NamesUpTo, IsTermTable, IsGrownTo}
use Rattle.ot_term.specs.declared.term.VarKey.{VarKey}
use Rattle.ot_term.proofs.Growing.{Grows-refl, Grows-trans, term_at-Grows, variable_of-Grows}
use Rattle.ot_subst.specs.Substitution.{Substitution, type_part, named_part, IsSubstOf}
use Rattle.ot_subst.specs.Renamed.{renaming_of}
use Rattle.ot_subst.specs.Walk.{carried, becomes, HasForm, IsRenamed, AreReady, NamesBelow, IsSetUp, IsLater}

module _ (t u : TermTable) (g : Grows t u) where
  named_pairs : (ps : List (VarKey × ℕ)) → All (λ p. p.0.ty < length t.types) ps → All (λ p. p.1 < length t.terms) ps
      → ◌≡◌ {A = List (Variable ℕ × Named ℕ)} (map (λ p. (variable_of u.types p.0, term_at u.terms p.1)) ps)
      (map (λ p. (variable_of t.types p.0, term_at t.terms p.1)) ps)
  named_pairs [] v h = refl
  named_pairs (p ∷ ps) v h =
      let key = variable_of-Grows t u g p.0 (All-head (λ (p : VarKey × ℕ). p.0.ty < length t.types) p ps v) in
      let term = term_at-Grows t u g p.1 (All-head (λ (p : VarKey × ℕ). p.1 < length t.terms) p ps h) in
      let rest = named_pairs ps (All-tail (λ (p : VarKey × ℕ). p.0.ty < length t.types) p ps v)
      (All-tail (λ (p : VarKey × ℕ). p.1 < length t.terms) p ps h) in
      λ i. (key i, term i) ∷ rest i

  module _ (s : Substitution) (inside : IsSubstOf t s) where
    pub type_part-Grows : type_part u s ≡ type_part t s
    type_part-Grows = images-Extends t.types u.types g.types s.types inside.types

    pub named_part-Grows : named_part u s ≡ named_part t s
    named_part-Grows = named_pairs s.terms inside.variables inside.terms

    pub IsSubstOf-Grows : IsSubstOf u s
    IsSubstOf-Grows = record {
      types = λ k d h. omega (arith, inside.types k d h, g.types.longer);
      variables = λ k d h. omega (arith, inside.variables k d h, g.types.longer);
      terms = λ k d h. omega (arith, inside.terms k d h, g.terms.longer);
      typed = subst (λ m. IsTyped numbers (nameless_map numbers m)) (sym named_part-Grows) inside.typed;
    }

    pub IsRenamed-Grows : (p : VarKey × VarKey) → IsRenamed t s p → IsRenamed u s p
    IsRenamed-Grows p h = record {
      from = omega (arith, h.from, g.types.longer);
      to = omega (arith, h.to, g.types.longer);
      typed = type_at-Extends t.types u.types g.types p.1.ty h.to ∙ h.typed
          ∙ (λ i. inst numbers (sym type_part-Grows i)
          (sym (type_at-Extends t.types u.types g.types p.0.ty h.from) i));
    }

    pub renaming_of-Grows : (r : List (VarKey × VarKey)) → ((p : VarKey × VarKey) → IsMember p r → IsRenamed t s p)
        → renaming_of u.types r ≡ renaming_of t.types r
    renaming_of-Grows [] h = refl
    renaming_of-Grows (p ∷ r) h =
        let old = variable_of-Grows t u g p.0 (h p (inl refl)).from in
        let new = variable_of-Grows t u g p.1 (h p (inl refl)).to in
        let rest = renaming_of-Grows r (λ q i. h q (inr i)) in
        λ i. (old i, new i) ∷ rest i

    pub becomes-Grows : (r : List (VarKey × VarKey)) → ((p : VarKey × VarKey) → IsMember p r → IsRenamed t s p)
        → (x : Tm ℕ) → becomes u s r x ≡ becomes t s r x
    becomes-Grows r h x = λ i. carried (type_part-Grows i) (named_part-Grows i) (renaming_of-Grows r h i) x

    -- a term that was there
    pub becomes_at-Grows : (r : List (VarKey × VarKey)) → ((p : VarKey × VarKey) → IsMember p r → IsRenamed t s p)
        → (id : ℕ) → id < length t.terms → becomes u s r (nameless numbers (term_at u.terms id))
        ≡ becomes t s r (nameless numbers (term_at t.terms id))
    becomes_at-Grows r h id within = becomes-Grows r h (nameless numbers (term_at u.terms id))
        ∙ ap (λ z. becomes t s r (nameless numbers z)) (term_at-Grows t u g id within)

    pub AreReady-Grows : (r : List (VarKey × VarKey)) → AreReady t s r → IsTermTable u → AreReady u s r
    AreReady-Grows r ready table =
        record { table = table; subst = IsSubstOf-Grows; binders = λ p i. IsRenamed-Grows p (ready.binders p i) }

    pub IsSetUp-Grows : (j k : ℕ) (r : List (VarKey × VarKey)) → IsSetUp j t s r → j ≤ k → IsTermTable u
        → NamesBelow k u → IsSetUp k u s r
    IsSetUp-Grows j k r set le table names = record {
      ready = AreReady-Grows r set.ready table;
      names = names;
      bound = omega (arith, set.bound, le);
    }

  pub HasForm-Grows : (id : ℕ) (x : Tm ℕ) → HasForm t id x → HasForm u id x
  HasForm-Grows id x h = record {
    within = omega (arith, h.within, g.terms.longer);
    form = ap (nameless numbers) (term_at-Grows t u g id h.within) ∙ h.form;
  }

pub below-UpTo : (j k : ℕ) (t u : TermTable) → NamesBelow k t → NamesUpTo j t u → j ≤ k → NamesBelow k u
below-UpTo j k t u h up le = record {
  types = omega (arith, h.types, up.types);
  terms = omega (arith, h.types, h.terms, up.terms);
}

-- where a table grew twice
pub below-twice : (k : ℕ) (t u w : TermTable) → NamesBelow k t → NamesUpTo 0 t u → NamesUpTo 0 u w → NamesBelow k w
below-twice k t u w h up more = below-UpTo 0 k u w (below-UpTo 0 k t u h up (omega arith)) more (omega arith)

pub IsLater-refl : (ns : List Name) (t : TermTable) → NamesBelow (length ns) t → IsTermTable t → IsLater ns ns t t
IsLater-refl ns t below table = record {
  extends = Extends-refl ns;
  name_table = λ h. h;
  grows = Grows-refl t;
  table = table;
  names = below;
}

pub IsLater-trans : (ns ms ls : List Name) (t u v : TermTable) → IsLater ns ms t u → IsLater ms ls u v
    → IsLater ns ls t v
IsLater-trans ns ms ls t u v a b = record {
  extends = Extends-trans a.extends b.extends;
  name_table = λ h. b.name_table (a.name_table h);
  grows = Grows-trans a.grows b.grows;
  table = b.table;
  names = b.names;
}

-- a call that leaves the names as they are
pub IsLater-table : (j : ℕ) (ns : List Name) (t u : TermTable) → NamesBelow (length ns) t → IsGrownTo j t u
    → j ≤ length ns → IsLater ns ns t u
IsLater-table j ns t u h g le = record {
  extends = Extends-refl ns;
  name_table = λ h. h;
  grows = g.grows;
  table = g.table;
  names = below-UpTo j (length ns) t u h g.names le;
}
