-- The rows of the stack alone keep a stack of entries that fit.
use Rattle.std.specs.Prelude.{◌≡◌, ◌-◌, ℕ, suc, pos, Bool, true, false, List, [], ◌∷◌}
use Rattle.std.specs.Prelude.{length, Result, Ok, Err, nat_lt, slice_get, if◌then◌else◌}
use Rattle.std.specs.Ordering.{int_eq}
use Rattle.std.specs.List.{All}
use Rattle.std.proofs.Common.{refl, sym, ap, ◌∙◌, subst}
use Rattle.std.proofs.lemmas.Bool.{ltb-true}
use Rattle.std.proofs.lemmas.List.Elements.{All-nil, All-cons, All-append, All-take}
use Rattle.ot_logic.specs.Names.{Name}
use Rattle.ot_logic.specs.Naming.{names}
use Rattle.ot_logic.specs.Faults.{Fault, StackEmpty, VersionUnsupported}
use Rattle.ot_logic.specs.Answers.{◌>>=◌, some_or, unless}
use Rattle.ot_logic.specs.declared.command.Cmd.{Cmd}
use Rattle.ot_logic.specs.declared.command.Cmd.TheVariants as words
use Rattle.ot_interp.specs.Interpretation.{renamed}
use Rattle.ot_trace.specs.Origins.{Origin, Origins, Make, NoOrigins, operand}
use Rattle.ot_machine.specs.Objects.{Object, Objects, list}
use Rattle.ot_machine.specs.Objects.{no_objects, more_objects}
use Rattle.ot_machine.specs.States.{Entry, Context}
use Rattle.ot_machine.specs.Places.{entry_at, list_entry, object_at, dropped, pushed}
use Rattle.ot_machine.specs.Places.{replaced, as_list, as_name, as_number, name_on}
use Rattle.ot_machine.specs.Makers.{arity, maker}
use Rattle.ot_machine.specs.Rows.{Row, made, making, nil_row, pop_row, version_row, hd_tl_row}
use Rattle.ot_machine.specs.Rows.{type_op_row, const_row, first_of, constant_entry, type_op_entry}
use Rattle.ot_machine.specs.Lawful.{Basis, Fits, EntryFits, RestsOn, IsTaken}
use Rattle.ot_machine.proofs.Tops.{same-ok, at-place}
use Rattle.ot_machine.proofs.MadeFits.{made-fits}
use Rattle.ot_machine.proofs.WordKinds.{name-origin}
use Rattle.ot_machine.proofs.ListOrigin.{list-tree}
use Rattle.ot_machine.proofs.ObjectKinds.{name-is, list-is}
use Rattle.ot_logic.proofs.Results.{bind-ok}

module _ (b : Basis) where
  abbrev pub AllFit : List Entry → Type 0
  AllFit = All (EntryFits b)

  abbrev pub KeepsStack : (List Entry → Row) → Type 0
  KeepsStack row = (stack after : List Entry) → AllFit stack → row stack ≡ Ok after → AllFit after

  -- ---- parts of a stack
  abbrev found : Entry → Result Entry (Fault Name)
  found e = Ok e

  pub entry-fits : (n : ℕ) (stack : List Entry) (e : Entry) → AllFit stack → entry_at n stack ≡ Ok e → EntryFits b e
  entry-fits n stack e all p = by (nat_lt n (length stack)) refl p
    where
      by : (t : Bool) → nat_lt n (length stack) ≡ t
          → (if t then some_or StackEmpty (slice_get stack (length stack - suc n)) else Err StackEmpty) ≡ found e
          → EntryFits b e
      by true lt q = let a = at-place (EntryFits b) n stack all (ltb-true n (length stack) lt) in
          subst (EntryFits b) (same-ok (entry_at n stack) _ _ a.1 p) a.2
      by false lt q = absurd (cc)

  pub object-fits : (n : ℕ) (stack : List Entry) (o : Object) → AllFit stack → object_at n stack ≡ Ok o
      → (p : Origin Name) × (entry_at n stack ≡ Ok (record { object = o; origin = p })) × Fits b p o
  object-fits n stack o all p =
      let a = bind-ok (entry_at n stack) _ _ p in
      let f = entry-fits n stack a.0 all a.1 in
      let same : a.0.object ≡ o = same-ok (Ok a.0.object) _ _ refl a.2 in (
        a.0.origin,
        a.1 ∙ (λ i. Ok (record { object = same i; origin = a.0.origin })),
        subst (Fits b a.0.origin) same
            f,
      )

  pub dropped-fits : (n : ℕ) (stack : List Entry) → AllFit stack → AllFit (dropped n stack)
  dropped-fits n stack all = All-take (EntryFits b) (length stack - n) stack all

  pub pushed-fits : (e : Entry) (stack : List Entry) → EntryFits b e → AllFit stack → AllFit (pushed e stack)
  pushed-fits e stack f all =
      All-append (EntryFits b) stack (e ∷ []) all (All-cons (EntryFits b) e [] f (All-nil (EntryFits b)))

  pub replaced-fits : (n : ℕ) (e : Entry) (stack : List Entry) → EntryFits b e → AllFit stack
      → AllFit (replaced n e stack)
  replaced-fits n e stack f all = pushed-fits e (dropped n stack) f (dropped-fits n stack all)

  -- what was answered fits
  abbrev is : List Entry → Row
  is xs = Ok xs

  answered : (xs after : List Entry) → AllFit xs → is xs ≡ is after → AllFit after
  answered xs after all p = subst AllFit (same-ok (is xs) _ _ refl p) all

  -- ---- rows
  pub making-keeps : (w : Cmd) → ((os : Origins Name) → IsTaken b w os) → KeepsStack (making w)
  making-keeps w taken stack after all p =
      let a = bind-ok (made w stack) _ _ p in
      answered _ after (replaced-fits (arity (maker w)) a.0 stack (made-fits b w stack a.0 all a.1 (taken _)) all) a.2

  pub nil-keeps : KeepsStack nil_row
  nil-keeps stack after all p =
      answered _ after (pushed-fits (record { object = list no_objects; origin = Make words.Nil NoOrigins }) stack
      (record { value_is = refl; rests = (tt, tt) }) all) p

  pub pop-keeps : KeepsStack pop_row
  pop-keeps stack after all p = let a = bind-ok (object_at 0 stack) _ _ p in
      answered _ after (dropped-fits 1 stack all) a.2

  pub version-keeps : KeepsStack version_row
  version-keeps stack after all p =
      let a = bind-ok (object_at 0 stack >>= as_number) _ _ p in
      let c = bind-ok (unless (VersionUnsupported a.0) (int_eq a.0 (pos 6))) _ _ a.2 in
      answered _ after (dropped-fits 1 stack all) c.2

  -- the name at a place is one of the basis
  pub name-held : (i : ℕ) (stack : List Entry) (n : Name) → AllFit stack → name_on i stack ≡ Ok n → b.IsNamed n
  name-held i stack n all p =
      let a = bind-ok (object_at i stack) as_name n p in
      let f = object-fits i stack a.0 all a.1 in
      let same = name-origin f.0 n (f.2.value_is ∙ ap Ok (name-is a.0 n a.2)) in
      subst (RestsOn b) same f.2.rests

  pub constant-fits : (n : Name) → b.IsNamed n → EntryFits b (constant_entry n)
  constant-fits n held = record { value_is = refl; rests = ((held, tt), tt) }

  pub type_op-fits : (n : Name) → b.IsNamed n → EntryFits b (type_op_entry n)
  type_op-fits n held = record { value_is = refl; rests = ((held, tt), tt) }

  pub const-keeps : (c : Context)
      → ((n : Name) → b.IsNamed n → b.IsNamed (renamed names c.interpretation.constants n)) → KeepsStack (const_row c)
  const-keeps c held stack after all p =
      let a = bind-ok (name_on 0 stack) _ _ p in
      answered _ after (replaced-fits 1 (constant_entry (renamed names c.interpretation.constants a.0)) stack
      (constant-fits _ (held a.0 (name-held 0 stack a.0 all a.1))) all) a.2

  pub type_op-keeps : (c : Context)
      → ((n : Name) → b.IsNamed n → b.IsNamed (renamed names c.interpretation.type_ops n))
      → KeepsStack (type_op_row c)
  type_op-keeps c held stack after all p =
      let a = bind-ok (name_on 0 stack) _ _ p in
      answered _ after (replaced-fits 1 (type_op_entry (renamed names c.interpretation.type_ops a.0)) stack
      (type_op-fits _ (held a.0 (name-held 0 stack a.0 all a.1))) all) a.2

  -- ---- the head and the tail
  -- a list that isn't empty: its head and its tail fit the origins that stand in the cons tree
  pub parts-fit : (p : Origin Name) (head : Object) (tail : Objects) → Fits b p (list (more_objects head tail))
      → Fits b (operand 0 p) head × Fits b (operand 1 p) (list tail)
  parts-fit p head tail f =
      let t = list-tree p (more_objects head tail) f.value_is in
      let on = subst (RestsOn b) t.is f.rests in (
        subst (λ z. Fits b (operand 0 z) head) (sym t.is) (record { value_is = t.head_is; rests = on.0.0 }),
        subst
            (λ z. Fits b (operand 1 z) (list tail)) (sym t.is) (record { value_is = t.tail_is; rests = on.0.1.0 }),
      )

  first-is : (os : Objects) (q : Object × Objects) → first_of os ≡ Ok q → os ≡ more_objects q.0 q.1
  first-is no_objects q p = absurd (cc)
  first-is (more_objects o os) q p = ap (λ (z : Object × Objects). more_objects z.0 z.1) (same-ok _ _ _ refl p)

  -- the list at a place fits its origin
  pub list_entry-fits : (n : ℕ) (stack : List Entry) (l : Objects × Origin Name) → AllFit stack
      → list_entry n stack ≡ Ok l → Fits b l.1 (list l.0)
  list_entry-fits n stack l all p =
      let e = bind-ok (entry_at n stack) _ _ p in
      let os = bind-ok (as_list e.0.object) _ _ e.2 in
      let f : EntryFits b e.0 = entry-fits n stack e.0 all e.1 in
      subst (λ (z : Objects × Origin Name). Fits b z.1 (list z.0)) (same-ok _ _ _ refl os.2)
      (subst (Fits b e.0.origin) (list-is e.0.object os.0 os.1) f)

  pub hd_tl-keeps : KeepsStack hd_tl_row
  hd_tl-keeps stack after all p =
      let l = bind-ok (list_entry 0 stack) _ _ p in
      let q = bind-ok (first_of l.0.0) _ _ l.2 in
      let parts = parts-fit l.0.1 q.0.0 q.0.1
      (subst (λ os. Fits b l.0.1 (list os)) (first-is l.0.0 q.0 q.1) (list_entry-fits 0 stack l.0 all l.1)) in
      let head : Entry = record { object = q.0.0; origin = operand 0 l.0.1 } in
      let tail : Entry = record { object = list q.0.1; origin = operand 1 l.0.1 } in
      let both = All-cons (EntryFits b) head (tail ∷ []) parts.0
      (All-cons (EntryFits b) tail [] parts.1 (All-nil (EntryFits b))) in
      answered _ after (All-append (EntryFits b) (dropped 1 stack) (head ∷ tail ∷ []) (dropped-fits 1 stack all) both)
      q.2
