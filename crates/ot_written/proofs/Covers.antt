-- A written article makes each part of its roots.
use Rattle.std.proofs.Common.{◌≡◌, ℕ, zero, suc, inl, inr, Bool, true, false, cond}
use Rattle.std.proofs.Common.{List, [], ◌∷◌, ◌++◌, Option, None, Some, refl, sym, subst}
use Rattle.std.specs.Bool.{Decides}
use Rattle.ot_logic.specs.Lists.{IsMember}
use Rattle.ot_trace.specs.Origins.{Origin, Origins, Number, Named, Make, Define}
use Rattle.ot_trace.specs.Origins.{Outcome, NoOrigins, MoreOrigins, parts, parts_all}
use Rattle.ot_written.specs.Written as w
use Rattle.ot_written.specs.Written.{Numeral, Spelled, Order, Text, theorem_count, symbol_count}
use Rattle.ot_logic.specs.declared.command.Cmd.{Cmd}
use Rattle.ot_logic.specs.declared.command.Cmd.TheVariants as words
use Rattle.ot_written.proofs.Settled.{IsMark, EachOutcome, EachOutcomes}
use Rattle.ot_written.proofs.Members.{member-get}
use Rattle.ot_written.proofs.Growth.{key-get, key-none, Grows, grows-store, grows-emit}
use Rattle.ot_written.proofs.Growth.{grows-emit_all, grows-pops, grows-outcomes, outcomes-mono}
use Rattle.ot_logic.proofs.Members.{IsMember-cases, IsMember-last, IsMember-left}

module _ {N : Type 0} where
  -- each mark among these is made
  abbrev pub AreMade : List (Origin N) → Text N → Type 0
  AreMade ps t = (p : Origin N) → IsMember p ps → IsMark p → IsMember p t.made

  -- what is stored is made with all its parts
  abbrev pub IsCovered : Text N → Type 0
  IsCovered t = (x : Origin N) → IsMember x t.stored → AreMade (parts x) t

  pub grown-made : (ps : List (Origin N)) (t u : Text N) → Grows t u → AreMade ps t → AreMade ps u
  grown-made ps t u g h p m k = subst (λ l. IsMember p l) (sym g.made) (IsMember-left p t.made g.more (h p m k))

  module _ (same : Origin N → Origin N → Bool) (same-is : (a b : Origin N) → Decides (same a b) (a ≡ b))
      (keep : Origin N → Bool) where
    -- what is stored next is covered
    store-covered : (b : Bool) (o : Origin N) (t : Text N) → AreMade (parts o) t → IsCovered t
        → IsCovered (cond b (w.store same o t) t)
    store-covered false o t h c x m = c x m
    store-covered true o t h c x m = elim (IsMember-cases x t.stored (o ∷ []) m)
        [ inl p ↦ c x p | inr p ↦ elim p [ inl e ↦ subst (λ z. AreMade (parts z) t) e h | inr q ↦ elim q [ ] ] ]

    -- a text with its origin written
    pub record IsDone (o : Origin N) (u : Text N) : Type 0 where
      pub parts_made : AreMade (parts o) u
      pub covered : IsCovered u

    pub record AreDone (os : Origins N) (u : Text N) : Type 0 where
      pub parts_made : AreMade (parts_all os) u
      pub covered : IsCovered u

    recalled-done : (k : Option ℕ) (write : Text N → Text N) (t : Text N) (o : Origin N) → w.key_of same o t.stored
        ≡ k → IsCovered t → (¬ (IsMember o t.stored) → IsDone o (write t)) → IsDone o (w.recalled same k write t)
    recalled-done None write t o e c new = new (key-none same same-is o t.stored e)
    recalled-done (Some k) write t o e c new =
        record {
          parts_made = λ p m q. c o (member-get o t.stored k (key-get same same-is o t.stored k e)) p m q;
          covered = c;
        }

    kept-done : (o : Origin N) (t : Text N) → IsDone o t → IsDone o (w.keep_made same keep o t)
    kept-done o t h =
        record {
          parts_made = grown-made (parts o) t (w.keep_made same keep o t) (grows-store same (keep o) o t)
              h.parts_made;
          covered = store-covered (keep o) o t h.parts_made h.covered;
        }

    mutual
      pub emit-done : (o : Origin N) (t : Text N) → EachOutcome (λ r. IsMember r t.stored) o → IsCovered t
          → IsDone o (w.emit same keep o t)
      emit-done (Number k) t h c = recalled-done (w.key_of same (Number k) t.stored) (λ u. w.put same (Numeral k) u) t
          (Number k) refl c
          (λ new. record {
            parts_made = λ p m q.
                elim m [ inl e ↦ absurd (subst (λ z. IsMark z) (sym e) q) | inr n ↦ elim n [ ] ];
            covered = c;
          })
      emit-done (Named n) t h c =
          recalled-done (w.key_of same (Named n) t.stored)
          (λ u. w.keep_made same keep (Named n) (w.make same (Named n) (Spelled n) u)) t (Named n) refl c
          (λ new. kept-done (Named n) (w.make same (Named n) (Spelled n) t) (record {
            parts_made =
                λ p m q. elim m [
                  | inl e ↦ subst (λ z. IsMember z (t.made ++ Named n ∷ [])) e
                      (IsMember-last (Named n) t.made)
                  | inr n ↦ elim n [ ]
                ];
            covered = λ x m p q r. IsMember-left p t.made (Named n ∷ []) (c x m p q r);
          }))
      emit-done (Make d os) t h c =
          let o : Origin N = Make d os in
          let u : Text N = w.emit_all same keep os t in
          recalled-done (w.key_of same o t.stored)
          (λ u. w.keep_made same keep o (w.make same o (Order d) (w.emit_all same keep os u))) t o refl c
          (λ new.
          let rest = emit_all-done os t h c in
          kept-done o (w.make same o (Order d) u) (record {
            parts_made =
                λ p m q. elim m [
                  | inl e ↦ subst (λ z. IsMember z (u.made ++ o ∷ [])) e (IsMember-last o u.made)
                  | inr
                      n ↦ IsMember-left p u.made (o ∷ []) (rest.parts_made p n q)
                ];
            covered = λ x m p q r. IsMember-left p u.made (o ∷ []) (rest.covered x m p q r);
          }))
      emit-done (Define d os) t h c = elim h [ ]
      emit-done (Outcome j d) t h c = recalled-done (w.key_of same (Outcome j d) t.stored) (λ u. u) t (Outcome j d)
          refl c (λ new. absurd (new h))

      pub emit_all-done : (os : Origins N) (t : Text N) → EachOutcomes (λ r. IsMember r t.stored) os → IsCovered t
          → AreDone os (w.emit_all same keep os t)
      emit_all-done NoOrigins t h c = record { parts_made = λ p m q. elim m [ ]; covered = c }
      emit_all-done (MoreOrigins o os) t h c =
          let u : Text N = w.emit same keep o t in
          let first = emit-done o t h.0 c in
          let later = outcomes-mono (λ r. IsMember r t.stored) (λ r. IsMember r u.stored)
          ((grows-emit same keep o t).stored) os h.1 in
          let rest = emit_all-done os u later first.covered in
          record {
            parts_made =
                λ p m q. elim (IsMember-cases p (parts o) (parts_all os) m) [
                  | inl a ↦ grown-made (parts o) u _ (grows-emit_all same keep os u) first.parts_made p a q
                  | inr b ↦
                      rest.parts_made p b q
                ];
            covered = rest.covered;
          }

    module _ (used : Origin N → Bool) where
      outcomes-done : (d : Origin N) (j : ℕ) (t : Text N) → AreMade (parts d) t → IsCovered t
          → IsCovered (w.outcomes same keep used d j t)
      outcomes-done d zero t h c = c
      outcomes-done d (suc j) t h c =
          let o : Origin N = Outcome (suc j) d in
          let u : Text N = cond (used o) (w.store same o t) t in
          let here : AreMade (parts o) t =
          λ p m q. elim m [ inl e ↦ absurd (subst (λ z. IsMark z) (sym e) q) | inr n ↦ h p n q ] in
          let covered : IsCovered u = store-covered (used o) o t here c in
          outcomes-done d j (w.put same (Order words.Pop) u)
          (grown-made (parts d) t u (grows-store same (used o) o t) h) covered

      pub definition-done : (c : Cmd) (os : Origins N) (t : Text N) → EachOutcomes (λ r. IsMember r t.stored) os
          → IsCovered t → IsDone (Define c os) (w.emit_definition same keep used (Define c os) t)
      definition-done c os t h i =
          let d : Origin N = Define c os in
          let u : Text N = w.emit_all same keep os t in
          let made : Text N = w.make same d (Order c) u in
          let proved : Text N = w.outcomes same keep used d (theorem_count c) made in
          let rest = emit_all-done os t h i in
          let all : AreMade (parts d) made =
          λ p m q. elim m [
            | inl e ↦ subst (λ z. IsMember z (u.made ++ d ∷ [])) e (IsMember-last d u.made)
            | inr
                n ↦ IsMember-left p u.made (d ∷ []) (rest.parts_made p n q)
          ] in
          let covered : IsCovered proved = outcomes-done d (theorem_count c) made all
          (λ x m p q r. IsMember-left p u.made (d ∷ []) (rest.covered x m p q r)) in
          record {
            parts_made = grown-made (parts d) proved _ (grows-pops same keep used (symbol_count c) proved)
                (grown-made (parts d) made proved (grows-outcomes same keep used d (theorem_count c) made) all);
            covered = pops-covered (symbol_count c) proved covered;
          }
        where
          pops-covered : (k : ℕ) (t : Text N) → IsCovered t → IsCovered (w.pops same keep used k t)
          pops-covered zero t c x m = c x m
          pops-covered (suc k) t c x m = pops-covered k (w.put same (Order words.Pop) t) c x m
