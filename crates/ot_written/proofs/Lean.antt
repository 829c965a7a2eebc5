-- A written article makes each needed origin once.
use Rattle.std.proofs.Common.{◌≡◌, ℕ, suc, ◌+◌, ◌<◌, ◌≤◌, inl, inr, Bool, true, false, cond, List, [], ◌∷◌}
use Rattle.std.proofs.Common.{◌++◌, Option, None, Some, refl, sym, ap, subst, ◌∙◌, arith, append_assoc}
use Rattle.std.specs.Bool.{Decides}
use Rattle.std.specs.List.{flat_map}
use Rattle.ot_logic.specs.Lists.{IsMember, AreDistinct}
use Rattle.ot_trace.specs.Uses.{count}
use Rattle.ot_trace.specs.Origins.{Origin, Origins, Number, Named, Make, Define}
use Rattle.ot_trace.specs.Origins.{Outcome, NoOrigins, MoreOrigins, listed, operands}
use Rattle.ot_written.specs.Written as w
use Rattle.ot_written.specs.Written.{Line, Numeral, Spelled, Order, Text, roots_of, theorem_count, symbol_count}
use Rattle.ot_trace.specs.Origins.{Roots}
use Rattle.ot_logic.specs.declared.command.Cmd.{Cmd}
use Rattle.ot_logic.specs.declared.command.Cmd.TheVariants as words
use Rattle.std.specs.Prelude.{pos}
use Rattle.ot_written.proofs.Settled.{stores, IsMade, IsNeededList}
use Rattle.ot_written.proofs.Counting.{count-append, count-moved, count-self, count-more, count-member, sum-part}
use Rattle.ot_written.proofs.Growth.{flat_map-snoc, key-none, made-store, grows-store}
use Rattle.ot_written.proofs.Growth.{grows-pops, grows-outcomes, made-definition}
use Rattle.ot_logic.proofs.Members.{AreDistinct-push, IsMember-cases, IsMember-last, IsMember-left, IsMember-right}

module _ {N : Type 0} where
  abbrev mutual
    size : Origin N → ℕ
    size (Number k) = 0
    size (Named n) = 0
    size (Make c os) = suc (size_all os)
    size (Define c os) = suc (size_all os)
    size (Outcome j d) = suc (size d)

    size_all : Origins N → ℕ
    size_all NoOrigins = 0
    size_all (MoreOrigins o os) = size o + size_all os

module _ {N : Type 0} (same : Origin N → Origin N → Bool) (same-is : (a b : Origin N) → Decides (same a b) (a ≡ b))
    (keep : Origin N → Bool) (roots needed : List (Origin N)) (needs : IsNeededList same keep roots needed) where
  -- between two moves: open are the origins whose operands are being written, pending those that are still asked for
  record IsFine (open_ pending : List (Origin N)) (t : Text N) : Type 0 where
    distinct : AreDistinct (open_ ++ t.made)
    inside : (x : Origin N) → IsMember x (open_ ++ t.made) → IsMember x needed
    claims : (x : Origin N) → count same x (open_ ++ t.made) + count same x pending ≤ count same x roots
        + count same x (flat_map operands (open_ ++ t.made))
    kept : (x : Origin N) → IsMember x t.made → stores same keep x ≡ true → IsMember x t.stored

  -- an origin that is met by its key, or has nothing to write
  drop-claim : (ops : List (Origin N)) (o : Origin N) (ps : List (Origin N)) (t u : Text N) → t.made ≡ u.made
      → t.stored ≡ u.stored → IsFine ops (o ∷ ps) t → IsFine ops ps u
  drop-claim ops o ps t u e s i =
      record {
        distinct = subst (λ l. AreDistinct (ops ++ l)) e i.distinct;
        inside = subst (λ l. (x : Origin N) → IsMember x (ops ++ l) → IsMember x needed) e i.inside;
        claims = subst (λ l. (x : Origin N) → count same x (ops ++ l) + count same x ps ≤ count same x roots
            + count same x (flat_map operands (ops ++ l))) e
            (λ x. let h = i.claims x in let k = count-more same same-is x o ps in omega arith);
        kept = λ x m h. subst (λ l. IsMember x l) s (i.kept x (subst (λ l. IsMember x l) (sym e) m) h);
      }

  -- an origin that is to be written is new
  fresh-claim : (ops : List (Origin N)) (o : Origin N) (ps : List (Origin N)) (t : Text N)
      → ((x : Origin N) → IsMember x ops → size o < size x) → (stores same keep o ≡ true → ¬ (IsMember o t.stored))
      → IsMember o needed → IsMade o → IsFine ops (o ∷ ps) t → ¬ (IsMember o (ops ++ t.made))
  fresh-claim ops o ps t bigger new need mark i h = go (stores same keep o) refl
    where
      go : (b : Bool) → stores same keep o ≡ b → ⊥
      go true e = elim (IsMember-cases o ops t.made h)
          [ inl p ↦ (let q = bigger o p in absurd (omega arith)) | inr p ↦ new e (i.kept o p e) ]
      go false e =
          let most = needs.once o need mark e in
          let all = sum-part same same-is operands (ops ++ t.made) needed i.distinct i.inside o in
          let claim = i.claims o in
          let here = count-member same same-is o (ops ++ t.made) h in
          let self = count-self same same-is o ps in
          absurd (omega arith)

  open-claim : (ops : List (Origin N)) (o : Origin N) (ps : List (Origin N)) (t : Text N)
      → ¬ (IsMember o (ops ++ t.made)) → IsMember o needed → IsFine ops (o ∷ ps) t
      → IsFine (o ∷ ops) (operands o ++ ps) t
  open-claim ops o ps t new need i = record {
    distinct = (new, i.distinct);
    inside = λ x m. elim m [ inl e ↦ subst (λ z. IsMember z needed) e need | inr m ↦ i.inside x m ];
    claims = λ x.
        let h = i.claims x in
        let a = count-moved same same-is x o (ops ++ t.made) ps in
        let b = count-append same same-is x (operands o) ps in
        let c = count-append same same-is x (operands o) (flat_map operands (ops ++ t.made)) in
        omega arith;
    kept = i.kept;
  }

  close-claim : (ops : List (Origin N)) (o : Origin N) (ps : List (Origin N)) (t u : Text N)
      → u.made ≡ t.made ++ o ∷ [] → ((x : Origin N) → IsMember x t.stored → IsMember x u.stored)
      → (stores same keep o ≡ true → IsMember o u.stored) → IsFine (o ∷ ops) ps t → IsFine ops ps u
  close-claim ops o ps t u e grown held i =
      let moved : ops ++ u.made ≡ (ops ++ t.made) ++ o ∷ [] = ap (λ l. ops ++ l) e
      ∙ sym (append_assoc ops t.made (o ∷ [])) in
      record {
        distinct =
            subst (λ l. AreDistinct l) (sym moved) (AreDistinct-push (ops ++ t.made) o i.distinct.1 i.distinct.0);
        inside = λ x m. elim (IsMember-cases x (ops ++ t.made) (o ∷ []) (subst (λ l. IsMember x l) moved m))
            [ inl p ↦ i.inside x (inr p) | inr p ↦ elim p [ inl q ↦ i.inside x (inl q) | inr q ↦ elim q [ ] ] ];
        claims = λ x.
            let h = i.claims x in
            let a = count-append same same-is x (ops ++ t.made) (o ∷ []) in
            let b = count-append same same-is x (flat_map operands (ops ++ t.made)) (operands o) in
            let c = ap (count same x) (flat_map-snoc operands (ops ++ t.made) o) in
            let d = count-moved same same-is x o (ops ++ t.made) [] in
            let f = count-append same same-is x (operands o) (flat_map operands (ops ++ t.made)) in
            subst (λ l. count same x l + count same x ps ≤ count same x roots + count same x (flat_map operands l))
            (sym moved) (omega arith);
        kept = λ x m h. elim (IsMember-cases x t.made (o ∷ []) (subst (λ l. IsMember x l) e m)) [
          | inl p ↦ grown x (i.kept x p h)
          | inr p ↦
              elim p [
                | inl q ↦ subst (λ z. IsMember z u.stored) q (held (ap (stores same keep) q ∙ h))
                | inr q ↦
                    elim q [ ]
              ]
        ];
      }

  listed-needed : (o : Origin N) (c : Cmd) (os : Origins N) → operands o ≡ listed os → IsMember o needed
      → (x : Origin N) → IsMember x (listed os) → IsMember x needed
  listed-needed o c os e need x m = needs.closed o x need (subst (λ l. IsMember x l) (sym e) m)

  recalled-fine : (k : Option ℕ) (write : Text N → Text N) (t : Text N) (ops : List (Origin N)) (o : Origin N)
      (ps : List (Origin N)) → w.key_of same o t.stored ≡ k → IsFine ops (o ∷ ps) t
      → (¬ (IsMember o t.stored) → IsFine ops ps (write t)) → IsFine ops ps (w.recalled same k write t)
  recalled-fine None write t ops o ps e i new = new (key-none same same-is o t.stored e)
  recalled-fine (Some k) write t ops o ps e i new =
      drop-claim ops o ps t (w.put same (Order words.Ref) (w.put same (Numeral (pos k)) t)) refl refl i

  stored-made : (o : Origin N) (t : Text N) → keep o ≡ true → IsMember o (w.keep_made same keep o t).stored
  stored-made o t e = subst (λ b. IsMember o (cond b (w.store same o t) t).stored) (sym e) (IsMember-last o t.stored)

  mutual
    emit-fine : (o : Origin N) (t : Text N) (ops ps : List (Origin N))
        → ((x : Origin N) → IsMember x ops → size o < size x) → IsMember o needed → IsFine ops (o ∷ ps) t
        → IsFine ops ps (w.emit same keep o t)
    emit-fine (Number k) t ops ps bigger need i =
        recalled-fine (w.key_of same (Number k) t.stored) (λ u. w.put same (Numeral k) u) t ops (Number k) ps refl i
        (λ new. drop-claim ops (Number k) ps t (w.put same (Numeral k) t) refl refl i)
    emit-fine (Named n) t ops ps bigger need i =
        let o : Origin N = Named n in
        let made : Text N = w.make same o (Spelled n) t in
        recalled-fine (w.key_of same o t.stored) (λ u. w.keep_made same keep o (w.make same o (Spelled n) u)) t ops o
        ps refl i
        (λ new.
        let opened : IsFine (o ∷ ops) ps t =
        open-claim ops o ps t (fresh-claim ops o ps t bigger (λ e. new) need tt i) need i in
        close-claim ops o ps t (w.keep_made same keep o made) (made-store same (keep o) o made)
        (λ x m. (grows-store same (keep o) o made).stored x m) (stored-made o made) opened)
    emit-fine (Make c os) t ops ps bigger need i =
        let o : Origin N = Make c os in
        let u : Text N = w.emit_all same keep os t in
        let made : Text N = w.make same o (Order c) u in
        recalled-fine (w.key_of same o t.stored)
        (λ u. w.keep_made same keep o (w.make same o (Order c) (w.emit_all same keep os u))) t ops o ps refl i
        (λ new.
        let opened : IsFine (o ∷ ops) (listed os ++ ps) t =
        open-claim ops o ps t (fresh-claim ops o ps t bigger (λ e. new) need tt i) need i in
        let larger : (x : Origin N) → IsMember x (o ∷ ops) → size_all os < size x =
        λ x m. elim m [
          | inl e ↦ (let q : suc (size_all os) ≡ size x = ap size e in omega arith)
          | inr n ↦
              (let q = bigger x n in omega arith)
        ] in
        let rest : IsFine (o ∷ ops) ps u =
        emit_all-fine os t (o ∷ ops) ps larger (listed-needed o c os refl need) opened in
        close-claim ops o ps u (w.keep_made same keep o made) (made-store same (keep o) o made)
        (λ x m. (grows-store same (keep o) o made).stored x m) (stored-made o made) rest)
    emit-fine (Define c os) t ops ps bigger need i = recalled-fine (w.key_of same (Define c os) t.stored) (λ u. u) t
        ops (Define c os) ps refl i (λ new. drop-claim ops (Define c os) ps t t refl refl i)
    emit-fine (Outcome j d) t ops ps bigger need i =
        recalled-fine (w.key_of same (Outcome j d) t.stored) (λ u. u) t ops (Outcome j d) ps refl i
        (λ new. drop-claim ops (Outcome j d) ps t t refl refl i)

    emit_all-fine : (os : Origins N) (t : Text N) (ops ps : List (Origin N))
        → ((x : Origin N) → IsMember x ops → size_all os < size x)
        → ((x : Origin N) → IsMember x (listed os) → IsMember x needed) → IsFine ops (listed os ++ ps) t
        → IsFine ops ps (w.emit_all same keep os t)
    emit_all-fine NoOrigins t ops ps bigger need i = i
    emit_all-fine (MoreOrigins o os) t ops ps bigger need i =
        emit_all-fine os (w.emit same keep o t) ops ps (λ x m. let q = bigger x m in omega arith)
        (λ x m. need x (inr m))
        (emit-fine o t ops (listed os ++ ps) (λ x m. let q = bigger x m in omega arith) (need o (inl refl)) i)

  -- no definition is made by an origin's lines
  module _ (c : Cmd) (ps : Origins N) where
    recalled-keeps : (k : Option ℕ) (write : Text N → Text N) (t : Text N)
        → (IsMember (Define c ps) (write t).made → IsMember (Define c ps) t.made)
        → IsMember (Define c ps) (w.recalled same k write t).made → IsMember (Define c ps) t.made
    recalled-keeps None write t h m = h m
    recalled-keeps (Some k) write t h m = m

    made-keeps : (o : Origin N) (l : Line N) (t : Text N) → (o ≡ Define c ps → ⊥)
        → IsMember (Define c ps) (w.keep_made same keep o (w.make same o l t)).made → IsMember (Define c ps) t.made
    made-keeps o l t n m =
        elim (IsMember-cases (Define c ps) t.made (o ∷ [])
        (subst (λ z. IsMember (Define c ps) z) (made-store same (keep o) o (w.make same o l t)) m))
        [ inl a ↦ a | inr b ↦ elim b [ inl e ↦ absurd (n e) | inr q ↦ elim q [ ] ] ]

    mutual
      emit-keeps : (o : Origin N) (t : Text N) → IsMember (Define c ps) (w.emit same keep o t).made
          → IsMember (Define c ps) t.made
      emit-keeps (Number k) t m = recalled-keeps (w.key_of same (Number k) t.stored) (λ u. w.put same (Numeral k) u) t
          (λ x. x) m
      emit-keeps (Named n) t m =
          recalled-keeps (w.key_of same (Named n) t.stored)
          (λ u. w.keep_made same keep (Named n) (w.make same (Named n) (Spelled n) u)) t
          (λ x. made-keeps (Named n) (Spelled n) t (λ e. cc) x) m
      emit-keeps (Make d os) t m = recalled-keeps (w.key_of same (Make d os) t.stored)
          (λ u. w.keep_made same keep (Make d os) (w.make same (Make d os) (Order d) (w.emit_all same keep os u))) t
          (λ x. emit_all-keeps os t (made-keeps (Make d os) (Order d) (w.emit_all same keep os t) (λ e. cc) x)) m
      emit-keeps (Define d os) t m = recalled-keeps (w.key_of same (Define d os) t.stored) (λ u. u) t (λ x. x) m
      emit-keeps (Outcome j d) t m = recalled-keeps (w.key_of same (Outcome j d) t.stored) (λ u. u) t (λ x. x) m

      emit_all-keeps : (os : Origins N) (t : Text N) → IsMember (Define c ps) (w.emit_all same keep os t).made
          → IsMember (Define c ps) t.made
      emit_all-keeps NoOrigins t m = m
      emit_all-keeps (MoreOrigins o os) t m = emit-keeps o t (emit_all-keeps os (w.emit same keep o t) m)

  module _ (used : Origin N → Bool) where
    definition-fine : (c : Cmd) (os : Origins N) (t : Text N) (ps : List (Origin N)) → IsMember (Define c os) needed
        → ¬ (IsMember (Define c os) t.made) → IsFine [] (Define c os ∷ ps) t
        → IsFine [] ps (w.emit_definition same keep used (Define c os) t)
    definition-fine c os t ps need new i =
        let d : Origin N = Define c os in
        let u : Text N = w.emit_all same keep os t in
        let made : Text N = w.make same d (Order c) u in
        let proved : Text N = w.outcomes same keep used d (theorem_count c) made in
        let opened : IsFine (d ∷ []) (listed os ++ ps) t = open-claim [] d ps t new need i in
        let larger : (x : Origin N) → IsMember x (d ∷ []) → size_all os < size x =
        λ x m. elim m [
          | inl e ↦ (let q : suc (size_all os) ≡ size x = ap size e in omega arith)
          | inr n ↦
              elim n [ ]
        ] in
        let rest : IsFine (d ∷ []) ps u =
        emit_all-fine os t (d ∷ []) ps larger (listed-needed d c os refl need) opened in
        close-claim [] d ps u (w.emit_definition same keep used d t) (made-definition same keep used c os t)
        (λ x m. (grows-pops same keep used (symbol_count c) proved).stored x
        ((grows-outcomes same keep used d (theorem_count c) made).stored x m)) (λ e. absurd (cc)) rest

    -- none of the definitions is made yet
    abbrev NoneMade : List (Origin N) → Text N → Type 0
    NoneMade ds t = (c : Cmd) (ps : Origins N) → IsMember (Define c ps) ds → ¬ (IsMember (Define c ps) t.made)

    definitions-fine : (ds : List (Origin N)) (t : Text N) (ps : List (Origin N)) → AreDistinct ds → NoneMade ds t
        → ((d : Origin N) → IsMember d ds → IsMember d needed) → IsFine [] (ds ++ ps) t
        → IsFine [] ps (w.emit_definitions same keep used ds t)
    definitions-fine [] t ps one none need i = i
    definitions-fine (d ∷ ds) t ps one none need i =
        definitions-fine ds (w.emit_definition same keep used d t) ps one.1 (later d one.0 none)
        (λ e m. need e (inr m)) (first d (need d (inl refl)) (λ c os e. none c os (inl e)) i)
      where
        later : (d : Origin N) → ¬ (IsMember d ds) → NoneMade (d ∷ ds) t
            → NoneMade ds (w.emit_definition same keep used d t)
        later (Define c os) apart none e qs m h =
            elim (IsMember-cases (Define e qs) (w.emit_all same keep os t).made (Define c os ∷ [])
            (subst (λ z. IsMember (Define e qs) z) (made-definition same keep used c os t) h)) [
              | inl a ↦ none e qs (inr m) (emit_all-keeps e qs os t a)
              | inr b ↦ elim b [ inl p ↦ apart (subst (λ z. IsMember z ds) (sym p) m) | inr q ↦ q ]
            ]
        later (Number k) apart none e qs m h = none e qs (inr m) h
        later (Named k) apart none e qs m h = none e qs (inr m) h
        later (Make c os) apart none e qs m h = none e qs (inr m) h
        later (Outcome j x) apart none e qs m h = none e qs (inr m) h

        first : (d : Origin N) → IsMember d needed
            → ((c : Cmd) (os : Origins N) → d ≡ Define c os → ¬ (IsMember (Define c os) t.made))
            → IsFine [] (d ∷ (ds ++ ps)) t → IsFine [] (ds ++ ps) (w.emit_definition same keep used d t)
        first (Define c os) n new i = definition-fine c os t (ds ++ ps) n (new c os refl) i
        first (Number k) n new i = drop-claim [] (Number k) (ds ++ ps) t t refl refl i
        first (Named k) n new i = drop-claim [] (Named k) (ds ++ ps) t t refl refl i
        first (Make c os) n new i = drop-claim [] (Make c os) (ds ++ ps) t t refl refl i
        first (Outcome j d) n new i = drop-claim [] (Outcome j d) (ds ++ ps) t t refl refl i

    put-fine : (l : Line N) (t : Text N) (ops ps : List (Origin N)) → IsFine ops ps t → IsFine ops ps (w.put same l t)
    put-fine l t ops ps i = record { distinct = i.distinct; inside = i.inside; claims = i.claims; kept = i.kept }

    exports-fine : (es : List (Roots N)) (t : Text N)
        → ((o : Origin N) → IsMember o (roots_of es) → IsMember o needed) → IsFine [] (roots_of es) t
        → IsFine [] [] (w.emit_exports same keep used es t)
    exports-fine [] t need i = i
    exports-fine (e ∷ es) t need i =
        let a : Text N = w.emit same keep e.theorem t in
        let b : Text N = w.emit same keep e.list a in
        let c : Text N = w.emit same keep e.term b in
        let none : (o x : Origin N) → IsMember x [] → size o < size x = λ o x m. elim m [ ] in
        let ia = emit-fine e.theorem t [] (e.list ∷ e.term ∷ roots_of es) (none e.theorem) (need e.theorem (inl refl))
        i in
        let ib = emit-fine e.list a [] (e.term ∷ roots_of es) (none e.list) (need e.list (inr (inl refl))) ia in
        let ic = emit-fine e.term b [] (roots_of es) (none e.term) (need e.term (inr (inr (inl refl)))) ib in
        exports-fine es (w.put same (Order words.Thm) c) (λ o m. need o (inr (inr (inr m))))
        (put-fine (Order words.Thm) c [] (roots_of es) ic)

-- what a written article makes: each origin once, and needed ones alone
pub written-once : {N : Type 0} (same : Origin N → Origin N → Bool)
    (same-is : (a b : Origin N) → Decides (same a b) (a ≡ b)) (keep used : Origin N → Bool) (ds : List (Origin N))
    (es : List (Roots N)) (needed : List (Origin N))
    → AreDistinct ds → IsNeededList same keep (ds ++ roots_of es) needed
    → AreDistinct (w.written same keep used ds es).made
    × ((x : Origin N) → IsMember x (w.written same keep used ds es).made → IsMember x needed)
written-once {N} same same-is keep used ds es needed one needs =
    let begin : Text N = w.beginning same keep used in
    let roots : List (Origin N) = ds ++ roots_of es in
    let mid : Text N = w.emit_definitions same keep used ds begin in
    let first : IsFine same same-is keep roots needed needs [] roots begin =
    record { distinct = tt; inside = λ x m. elim m [ ]; claims = λ x. omega arith; kept = λ x m. elim m [ ] } in
    let defs : IsFine same same-is keep roots needed needs [] (roots_of es) mid =
    definitions-fine same same-is keep roots needed needs used ds begin (roots_of es) one (λ c ps m h. h)
    (λ d m. needs.has_roots d (IsMember-left d ds (roots_of es) m)) first in
    let all = exports-fine same same-is keep roots needed needs used es mid
    (λ o m. needs.has_roots o (IsMember-right o ds (roots_of es) m)) defs in
    (all.distinct, all.inside)
