-- A list with one variable more at its end.
use Rattle.std.proofs.Common.{◌≡◌, ℕ, ◌<◌, [], ◌∷◌, ◌++◌, map, length, slice_get, Some, sym, ap, subst, ◌∙◌, arith}
use Rattle.std.proofs.lemmas.List.{map-append}
use Rattle.std.proofs.lemmas.Option.{get_or_from_slice_get, slice_get_within}
use Rattle.ot_logic.specs.Lists.{IsMember, AreDistinct}
use Rattle.ot_logic.specs.Table.{Extends}
use Rattle.ot_logic.proofs.Members.{IsMember-map, AreDistinct-push}
use Rattle.ot_logic.proofs.TableLemmas.{Extends-refl, get_or-Extends}
use Rattle.ot_lists.specs.Variables.{variable_of, list_at}
use Rattle.ot_lists.specs.SequenceTable.{SequenceTable, sequence_at, Grows, IsSequenceTable}
use Rattle.ot_lists.specs.Lists.{variable_at, lists_of}
use Rattle.ot_lists.specs.declared.list.Key.{Key}
use Rattle.ot_lists.proofs.FrameLemmas.{stays}
use Rattle.ot_lists.proofs.Seams.{distinct_at}
use Rattle.ot_lists.proofs.Lifting.{key-is, list-at, list-get, list-within, lists-grown}

-- the table t, and u in which the variable has a number
module _ (t u : SequenceTable) (was : IsSequenceTable t) (keys : Extends t.keys u.keys) (same : u.lists ≡ t.lists)
  where
    pub numbered-extends : Extends (lists_of t) (lists_of u)
    numbered-extends = lists-grown t was u keys (subst (Extends t.lists) (sym same) (Extends-refl t.lists))

    -- w, in which it has a list of its own
    module _ (w : SequenceTable) (k : Key) (x front single : ℕ) (table : IsSequenceTable u)
        (number : slice_get u.keys x ≡ Some k) (g : Grows u w) (one : slice_get w.lists single ≡ Some (x ∷ []))
        (within : front < length (lists_of t)) where
      front-u : front < length u.lists
      front-u = subst (λ ls. front < length ls) (sym same) (list-within t front within)

      pub front-in : front < length w.lists
      front-in = let h = front-u in omega (arith, h, g.lists.longer)

      pub single-in : single < length w.lists
      single-in = slice_get_within w.lists single (x ∷ []) one

      list-same : list_at (lists_of u) front ≡ list_at (lists_of t) front
      list-same = get_or-Extends (lists_of t) (lists_of u) numbered-extends front [] within

      front-is : map (variable_at u.keys) (sequence_at w front) ≡ list_at (lists_of t) front
      front-is =
          ap (map (variable_at u.keys)) (stays u w g front front-u) ∙ sym (list-at u front front-u) ∙ list-same

      pub push-distinct : ¬ (IsMember (variable_of k) (list_at (lists_of t) front))
          → AreDistinct (sequence_at w front ++ sequence_at w single)
      push-distinct new =
          let last = get_or_from_slice_get w.lists single (x ∷ []) [] one in
          let here = sym (stays u w g front front-u) in
          subst (λ l. AreDistinct (sequence_at w front ++ l)) (sym last)
          (AreDistinct-push (sequence_at w front) x (subst AreDistinct here (distinct_at u table front front-u))
          (λ m. new (subst (IsMember (variable_of k)) front-is
          (subst (λ v. IsMember v (map (variable_at u.keys) (sequence_at w front))) (key-is u.keys k x number)
          (IsMember-map (variable_at u.keys) x (sequence_at w front) m)))))

      pub push-is : (v : SequenceTable) (r : ℕ) → Grows w v
          → slice_get v.lists r ≡ Some (sequence_at w front ++ sequence_at w single)
          → slice_get (lists_of v) r ≡ Some (list_at (lists_of t) front ++ variable_of k ∷ [])
      push-is v r h found =
          let last = get_or_from_slice_get w.lists single (x ∷ []) [] one in
          list-get v r _ found
          ∙ ap (λ ks. Some (map (variable_at ks) (sequence_at w front ++ sequence_at w single))) (h.keys ∙ g.keys)
          ∙ ap (λ l. Some (map (variable_at u.keys) (sequence_at w front ++ l))) last
          ∙ ap Some (map-append (variable_at u.keys) (sequence_at w front) (x ∷ []))
          ∙ (λ i. Some (front-is i ++ key-is u.keys k x number i ∷ []))
