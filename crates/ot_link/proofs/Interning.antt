-- One pair more in an interpretation of numbers, over a kernel that grew.
use Rattle.std.specs.Prelude.{◌<◌, Some}
use Rattle.std.proofs.Common.{◌≡◌, ◌∙◌, ℕ, List, [], ◌∷◌, length, false, sym, ap, subst, arith}
use Rattle.std.proofs.lemmas.List.{map-append}
use Rattle.ot_logic.specs.Names.{Name}
use Rattle.ot_logic.specs.Naming.{names, numbers, IsNameTable}
use Rattle.ot_logic.specs.Reading.{name_read}
use Rattle.ot_logic.proofs.TableLemmas.{get_or-IsInjective, get_or-Extends}
use Rattle.ot_interp.specs.Interpretation.{Interpretation, map_interpretation, map_pairs, IsWithin}
use Rattle.ot_interp.proofs.Renaming.{is_held-at, IsWithin-more, map_interpretation-agree}
use Rattle.ot_kernel.specs.State as kernel
use Rattle.ot_machine.proofs.Kept.{keeps-on}
use Rattle.ot_theory.specs.Interpretations.{◌>>=◌, split_interpret}
use Rattle.ot_theory.specs.declared.interpretation.SymbolWord.{SymbolWord}
use Rattle.ot_theory.specs.declared.interpretation.SymbolWord.TheVariants.{Con, TyOp}
use Rattle.ot_link.specs.Renaming.{renaming_of}
use Rattle.ot_link.specs.Adding.{is_held_by, with_pair, added, IsNew}

-- what a value renames, from its parts
pub renaming-parts : (value from to : List ℕ) (kind : SymbolWord) (a b : Name)
    → split_interpret value ≡ Some (kind, from, to) → name_read from ≡ Some a → name_read to ≡ Some b
    → renaming_of value ≡ Some (record { kind = kind; from = a; to = b })
renaming-parts value from to kind a b e f g =
    ap (λ o. o >>= λ p. name_read p.1 >>= λ x. name_read p.2 >>= λ y. Some (record { kind = p.0; from = x; to = y }))
    e
    ∙ ap (λ o. o >>= λ x. name_read to >>= λ y. Some (record { kind = kind; from = x; to = y })) f
    ∙ ap (λ o. o >>= λ y. Some (record { kind = kind; from = a; to = y })) g

module _ (k l : kernel.State) (kept : kernel.Keeps k l) (table : IsNameTable l.names) (i : Interpretation ℕ)
    (within : IsWithin (length k.names) i) where
  same : map_interpretation (kernel.name_at l) i ≡ map_interpretation (kernel.name_at k) i
  same = map_interpretation-agree (kernel.name_at l) (kernel.name_at k) (length k.names)
      (λ j. get_or-Extends k.names l.names kept.names j []) i within

  wider : IsWithin (length l.names) i
  wider = IsWithin-more (length k.names) (length l.names) kept.names.longer i within

  -- a name that isn't held has a number that isn't
  pub unheld : (kind : SymbolWord) (n : ℕ) → n < length l.names → is_held_by names kind
      (map_interpretation (kernel.name_at k) i) (kernel.name_at l n) ≡ false → is_held_by numbers kind i n ≡ false
  unheld kind n below h = by kind (ap (λ j. is_held_by names kind j (kernel.name_at l n)) same ∙ h)
    where
      by : (kind : SymbolWord) → is_held_by names kind (map_interpretation (kernel.name_at l) i) (kernel.name_at l n)
          ≡ false → is_held_by numbers kind i n ≡ false
      by Con g =
          sym (is_held-at (kernel.name_at l) (length l.names)
          (λ a b. get_or-IsInjective l.names table.injective a b []) i.constants n wider.constants below) ∙ g
      by TyOp g =
          sym (is_held-at (kernel.name_at l) (length l.names)
          (λ a b. get_or-IsInjective l.names table.injective a b []) i.type_ops n wider.type_ops below) ∙ g

  -- the pair stands for the names
  pub pair-added : (kind : SymbolWord) (from to : ℕ)
      → map_interpretation (kernel.name_at l) (with_pair kind from to i) ≡ with_pair kind (kernel.name_at l from)
      (kernel.name_at l to) (map_interpretation (kernel.name_at k) i)
  pair-added kind from to = by kind ∙ ap (with_pair kind (kernel.name_at l from) (kernel.name_at l to)) same
    where
      pair : ℕ × ℕ → Name × Name
      pair p = (kernel.name_at l p.0, kernel.name_at l p.1)

      by : (kind : SymbolWord) → map_interpretation (kernel.name_at l) (with_pair kind from to i)
          ≡ with_pair kind (kernel.name_at l from) (kernel.name_at l to) (map_interpretation (kernel.name_at l) i)
      by Con = let e = map-append pair i.constants ((from, to) ∷ []) in
          λ j. record { constants = e j; type_ops = map_pairs (kernel.name_at l) i.type_ops }
      by TyOp = let e = map-append pair i.type_ops ((from, to) ∷ []) in
          λ j. record { constants = map_pairs (kernel.name_at l) i.constants; type_ops = e j }

-- ---- a value of an `interpret:` statement, whose names were numbered one after the other

module _ (k0 k1 k2 : kernel.State) (first : kernel.Keeps k0 k1) (second : kernel.Keeps k1 k2)
    (table : IsNameTable k2.names) (i : Interpretation ℕ) (within : IsWithin (length k0.names) i)
    (value from to : List ℕ) (kind : SymbolWord) (f t : ℕ) (parts : split_interpret value ≡ Some (kind, from, to))
    (named : name_read from ≡ Some (kernel.name_at k1 f)) (renamed : name_read to ≡ Some (kernel.name_at k2 t))
    (below : f < length k1.names) where
  stays : kernel.name_at k1 f ≡ kernel.name_at k2 f
  stays = sym (get_or-Extends k1.names k2.names second.names f [] below)

  stated : renaming_of value ≡ Some (record { kind = kind; from = kernel.name_at k2 f; to = kernel.name_at k2 t })
  stated = renaming-parts value from to kind (kernel.name_at k2 f) (kernel.name_at k2 t) parts (named ∙ ap Some stays)
      renamed

  kept : kernel.Keeps k0 k2
  kept = keeps-on first second

  -- it may be added
  pub add-allowed : IsNew (renaming_of value) (map_interpretation (kernel.name_at k0) i) → is_held_by numbers kind i f
      ≡ false
  add-allowed new =
      let inside : f < length k2.names = omega (arith, below, second.names.longer) in
      unheld k0 k2 kept table i within kind f inside
      (subst (λ o. IsNew o (map_interpretation (kernel.name_at k0) i)) stated new)

  -- and that is what the statement renames
  pub add-stated : (new : Interpretation ℕ) → new ≡ with_pair kind f t i → map_interpretation (kernel.name_at k2) new
      ≡ added (renaming_of value) (map_interpretation (kernel.name_at k0) i)
  add-stated new e =
      ap (map_interpretation (kernel.name_at k2)) e
      ∙ pair-added k0 k2 kept table i within kind f t
      ∙ ap (λ o. added o (map_interpretation (kernel.name_at k0) i)) (sym stated)

  pub add-within : IsWithin (length k2.names) i
  add-within = wider k0 k2 kept table i within
