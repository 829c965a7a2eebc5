-- Lemmas on a step that is put into the table.
use Rattle.std.proofs.Common.{◌≡◌, ℕ, zero, suc, ◌<◌, ◌⊎◌, inl, inr, List, [], ◌∷◌, ◌++◌, Option, None}
use Rattle.std.proofs.Common.{Some, length, slice_get, position, refl, sym, ap, subst, ◌∙◌, arith}
use Rattle.std.proofs.lemmas.Option.{slice_get_within}
use Rattle.indexmap.specs.IndexMap.{IndexMap, keys, insert_entry, insert_index, set_value_at}
use Rattle.indexmap.proofs.MapLemmas.{Found-position, Missing-position, insert_entry-first}
use Rattle.ot_logic.proofs.InternedLemmas.{found, pushed}
use Rattle.ot_trace.specs.Origins.{Origin}
use Rattle.ot_trace.specs.Trace.{origin_of, origins, IsBelow, HasSymbols, IsTrace}
use Rattle.ot_trace.specs.declared.step.Step.{Step}
use Rattle.ot_trace.proofs.TraceLemmas.{step_eq, laws}

-- the table after a step was put in, which stands at this number now
pub record Entered (ts : List (Origin ℕ)) (s : Step) (new : List (Step × Unit {0})) (index : ℕ) : Type 0 where
  pub sound : IsTrace new (origins new)
  pub found : slice_get (origins new) index ≡ Some (origin_of ts s)
  pub grown : (origins new ≡ ts) ⊎ (origins new ≡ ts ++ origin_of ts s ∷ [])

same_entries : (es : List (Step × Unit {0})) (i : ℕ) → set_value_at es i tt ≡ es
same_entries [] i = refl
same_entries (e ∷ es) zero = refl
same_entries (e ∷ es) (suc i) = ap (λ l. e ∷ l) (same_entries es i)

abbrev fits : List (Origin ℕ) → Step → Unit {0} → Type 0
fits ts s u = HasSymbols ts s

pub entered : {S : Type 0} (m : IndexMap Step (Unit {0}) S) (ts : List (Origin ℕ)) → origins m.entries ≡ ts
    → IsTrace m.entries (origins m.entries)
    → (s : Step) → IsBelow (length ts) s → HasSymbols ts s → (new : List (Step × Unit {0}))
    → new ≡ insert_entry step_eq m.entries s tt
    → (index : ℕ) → index ≡ insert_index step_eq m s → Entered ts s new index
entered m ts view sound s below has new inserted index place = by (position (step_eq s) (keys m)) refl
  where
    here : IsTrace m.entries ts
    here = subst (IsTrace m.entries) view sound

    by : (r : Option ℕ) → position (step_eq s) (keys m) ≡ r → Entered ts s new index
    by (Some i) p =
        let f = Found-position (step_eq s) m.entries i p in
        let stays : new ≡ m.entries = inserted ∙ insert_entry-first step_eq s tt m.entries i f.first
        ∙ same_entries m.entries i in
        let at : i ≡ index = sym (place ∙ f.or_len) in
        let trees : origins new ≡ ts = ap origins stays ∙ view in
        record {
          sound = subst (λ es. IsTrace es (origins es)) (sym stays) sound;
          found = subst (λ us. slice_get us index ≡ Some (origin_of ts s)) (sym trees)
              (subst (λ j. slice_get ts j ≡ Some (origin_of ts s)) at
              (found origin_of IsBelow fits step_eq laws m.entries ts here s i p));
          grown = inl trees;
        }
    by None p =
        let f = Missing-position (step_eq s) m.entries p in
        let push = pushed origin_of IsBelow fits step_eq laws m ts view sound s tt below has p new inserted in
        let at : length m.entries ≡ index = sym (place ∙ f.or_len) in
        record {
          sound = push.sound;
          found = subst (λ j. slice_get (origins new) j ≡ Some (origin_of ts s)) at push.last;
          grown = inr push.trees;
        }

-- a step that the table has not has no number there
pub not_entered : {S : Type 0} (m : IndexMap Step (Unit {0}) S) (ts : List (Origin ℕ)) → origins m.entries ≡ ts
    → IsTrace m.entries (origins m.entries)
    → (s : Step) → IsBelow (length ts) s → HasSymbols ts s → position (step_eq s) (keys m) ≡ None → (i : ℕ)
    → slice_get ts i ≡ Some (origin_of ts s) → ⊥
not_entered m ts view sound s below has p i q =
    let push = pushed origin_of IsBelow fits step_eq laws m ts view sound s tt below has p
    (insert_entry step_eq m.entries s tt) refl in
    let place : i ≡ length m.entries = push.sound.injective.same i (length m.entries) _ (push.extends.keeps i _ q)
    push.last in
    let within : i < length ts = slice_get_within ts i _ q in
    let here : IsTrace m.entries ts = subst (IsTrace m.entries) view sound in
    omega (arith, here.same_length)
