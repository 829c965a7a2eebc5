-- The dictionary, seen as the finite map of what its entries stand for.
use Rattle.std.proofs.Common.{◌≡◌, ℤ, List, Bool, true, false, cond, sym, ap, ◌∙◌, refl}
use Rattle.std.specs.Prelude.{Option, Some, None, Ok, Err}
use Rattle.std.specs.Option.{option_map}
use Rattle.std.specs.Ordering.{int_cmp, int_eq, eq_by_cmp}
use Rattle.std.specs.Cmp.{int_cmp_total, eq_by_cmp_equiv}
use Rattle.std.specs.Map.{lookup}
use Rattle.std.specs.FinMap.{get, insert, remove, get-insert, get-remove, same_map, int_cmp-IsAntisymmetric}
use Rattle.std.proofs.lemmas.Option.{same_Some}
use Rattle.ot_logic.specs.Names.{Name}
use Rattle.ot_logic.specs.Faults as faults
use Rattle.ot_logic.specs.Answers.{some_or}
use Rattle.ot_kernel.specs.State as kernel
use Rattle.ot_machine.specs.Objects.{Objects}
use Rattle.ot_machine.specs.declared.object.Entry.{Entry}
use Rattle.ot_machine.specs.declared.session.Session.{Session}
use Rattle.ot_machine.specs.declared.fault.Fault.TheVariants as code
use Rattle.ot_machine.specs.Meaning.{entry_of, dictionary_of}
use Rattle.ot_machine.specs.Answers.{Refuses}
use Rattle.ot_machine.proofs.Kept.{get-dictionary}

module _ (k : Session) (cs : List Objects) where
  -- a key of the code, which went through its 64 bits, is the key
  pub entry-some : (es : List (ℤ × Entry)) (j key : ℤ) (o : Entry) → j ≡ key → Some o ≡ lookup (int_eq j) es
      → some_or {E = faults.Fault Name} (faults.NoEntry key) (get (dictionary_of k cs es) key) ≡ Ok (entry_of k cs o)
  entry-some es j key o same e =
      ap (λ z. some_or (faults.NoEntry z) (get (dictionary_of k cs es) z)) (sym same)
      ∙ ap (some_or (faults.NoEntry j)) (get-dictionary k cs es j ∙ ap (option_map (entry_of k cs)) (sym e))

  pub entry-none : (l : kernel.State) (es : List (ℤ × Entry)) (j key : ℤ) → j ≡ key → None ≡ lookup (int_eq j) es
      → Refuses l (code.NoEntry j) (some_or (faults.NoEntry key) (get (dictionary_of k cs es) key))
  entry-none l es j key same e =
      let none : get (dictionary_of k cs es) key ≡ None = ap (get (dictionary_of k cs es)) (sym same)
      ∙ get-dictionary k cs es j ∙ ap (option_map (entry_of k cs)) (sym e) in (
        tt,
        λ f p. ap (some_or (faults.NoEntry key)) none ∙ ap (λ z. Err (faults.NoEntry z)) (sym same)
            ∙ ap Err (same_Some _ _ p),
      )

  map-cond : (b : Bool) (w r : Option Entry) → option_map (entry_of k cs) (cond b w r)
      ≡ cond b (option_map (entry_of k cs) w) (option_map (entry_of k cs) r)
  map-cond true w r = refl
  map-cond false w r = refl

  -- what is there after a change at one key
  get-changed : (es fs : List (ℤ × Entry)) (key : ℤ) (w : Option Entry)
      → ((q : ℤ) → lookup (int_eq q) fs ≡ cond (int_eq key q) w (lookup (int_eq q) es)) → (q : ℤ)
      → get (dictionary_of k cs fs) q ≡ cond (eq_by_cmp int_cmp q key) (option_map (entry_of k cs) w)
      (get (dictionary_of k cs es) q)
  get-changed es fs key w changed q =
      get-dictionary k cs fs q
      ∙ ap (option_map (entry_of k cs)) (changed q)
      ∙ map-cond (int_eq key q) w _
      ∙ ap (λ b. cond b (option_map (entry_of k cs) w) (option_map (entry_of k cs) (lookup (int_eq q) es)))
      ((eq_by_cmp_equiv int_cmp_total).symm key q)
      ∙ ap (cond (eq_by_cmp int_cmp q key) (option_map (entry_of k cs) w)) (sym (get-dictionary k cs es q))

  pub insert-dictionary : (es fs : List (ℤ × Entry)) (j key : ℤ) (o : Entry) → j ≡ key
      → ((q : ℤ) → lookup (int_eq q) fs ≡ cond (int_eq j q) (Some o) (lookup (int_eq q) es))
      → dictionary_of k cs fs ≡ insert (dictionary_of k cs es) key (entry_of k cs o)
  insert-dictionary es fs j key o same changed =
      same_map int_cmp_total int_cmp-IsAntisymmetric _ _ (λ q. get-changed es fs j (Some o) changed q
      ∙ sym (get-insert int_cmp_total (dictionary_of k cs es) j (entry_of k cs o) q))
      ∙ ap (λ z. insert (dictionary_of k cs es) z (entry_of k cs o)) same

  pub remove-dictionary : (es fs : List (ℤ × Entry)) (j key : ℤ) → j ≡ key
      → ((q : ℤ) → lookup (int_eq q) fs ≡ cond (int_eq j q) None (lookup (int_eq q) es))
      → dictionary_of k cs fs ≡ remove (dictionary_of k cs es) key
  remove-dictionary es fs j key same changed =
      same_map int_cmp_total int_cmp-IsAntisymmetric _ _
      (λ q. get-changed es fs j None changed q ∙ sym (get-remove int_cmp_total (dictionary_of k cs es) j q))
      ∙ ap (remove (dictionary_of k cs es)) same

-- what held of each entry that is stored, and holds of what is there at a changed key, holds of each
pub each-changed : (P : Entry → Type 0) (es fs : List (ℤ × Entry)) (j : ℤ) (w : Option Entry)
    → ((q : ℤ) → lookup (int_eq q) fs ≡ cond (int_eq j q) w (lookup (int_eq q) es))
    → ((q : ℤ) (x : Entry) → lookup (int_eq q) es ≡ Some x → P x) → ((x : Entry) → w ≡ Some x → P x)
    → (q : ℤ) (x : Entry) → lookup (int_eq q) fs ≡ Some x → P x
each-changed P es fs j w changed each new q x p =
    by (int_eq j q) (lookup (int_eq q) es) (sym (changed q) ∙ p) (each q x)
  where
    by : (b : Bool) (r : Option Entry) → cond b w r ≡ Some x → (r ≡ Some x → P x) → P x
    by true r e old = new x e
    by false r e old = old e
