-- Keys, and what each part of an article adds to the text.
use Rattle.std.proofs.Common.{◌≡◌, ℕ, zero, suc, Bool, true, false, cond, List, [], ◌∷◌, ◌++◌, slice_get}
use Rattle.std.proofs.Common.{Option, None, Some, inl, inr, refl, sym, ap, subst, ◌∙◌, true≢false, append_assoc}
use Rattle.std.proofs.lemmas.List.{append-nil}
use Rattle.std.specs.Bool.{Decides}
use Rattle.std.specs.List.{flat_map}
use Rattle.std.specs.Option.{option_map}
use Rattle.ot_logic.specs.Lists.{IsMember}
use Rattle.ot_trace.specs.Origins.{Origin, Origins, Number, Named, Make, Define, Outcome, NoOrigins, MoreOrigins}
use Rattle.ot_written.specs.Written as w
use Rattle.ot_written.specs.Written.{Line, Numeral, Spelled, Order, Text, theorem_count, symbol_count}
use Rattle.ot_trace.specs.Origins.{Roots}
use Rattle.ot_logic.specs.declared.command.Cmd.{Cmd}
use Rattle.ot_logic.specs.declared.command.Cmd.TheVariants as words
use Rattle.ot_written.proofs.Settled.{EachOutcome, EachOutcomes}
use Rattle.ot_logic.proofs.Members.{IsMember-left}

pub flat_map-snoc : {X A : Type 0} (f : X → List A) → (xs : List X) (x : X) → flat_map f (xs ++ x ∷ [])
    ≡ flat_map f xs ++ f x
flat_map-snoc f [] x = append-nil (f x)
flat_map-snoc f (y ∷ xs) x = ap (λ l. f y ++ l) (flat_map-snoc f xs x)
    ∙ sym (append_assoc (f y) (flat_map f xs) (f x))

module _ {N : Type 0} (same : Origin N → Origin N → Bool)
    (same-is : (a b : Origin N) → Decides (same a b) (a ≡ b)) where
  pub key-get : (o : Origin N) (ps : List (Origin N)) (k : ℕ) → w.key_of same o ps ≡ Some k → slice_get ps k ≡ Some o
  key-get o [] k p = absurd (cc)
  key-get o (q ∷ ps) k p = go (same o q) refl (λ j. key-get o ps j) p
    where
      later : (r : Option ℕ) → ((j : ℕ) → r ≡ Some j → slice_get ps j ≡ Some o) → option_map suc r ≡ Some k
          → slice_get (q ∷ ps) k ≡ Some o
      later None h e = absurd (cc)
      later (Some j) h e = let f : suc j ≡ k = cc in subst (λ z. slice_get (q ∷ ps) z ≡ Some o) f (h j refl)

      go : (b : Bool) → same o q ≡ b → ((j : ℕ) → w.key_of same o ps ≡ Some j → slice_get ps j ≡ Some o)
          → cond b (Some 0) (option_map suc (w.key_of same o ps)) ≡ Some k → slice_get (q ∷ ps) k ≡ Some o
      go true e h r = let f : 0 ≡ k = cc in
          subst (λ z. slice_get (q ∷ ps) z ≡ Some o) f (ap Some (sym ((same-is o q).0 e)))
      go false e h r = later (w.key_of same o ps) h r

  -- an origin that is stored has a key
  pub key-none : (o : Origin N) (ps : List (Origin N)) → w.key_of same o ps ≡ None → ¬ (IsMember o ps)
  key-none o [] p h = elim h [ ]
  key-none o (q ∷ ps) p h = go (same o q) refl (key-none o ps) p h
    where
      later : (r : Option ℕ) → option_map suc r ≡ None → r ≡ None
      later None e = refl
      later (Some j) e = absurd (cc)

      go : (b : Bool) → same o q ≡ b → (w.key_of same o ps ≡ None → ¬ (IsMember o ps))
          → cond b (Some 0) (option_map suc (w.key_of same o ps)) ≡ None → IsMember o (q ∷ ps) → ⊥
      go true e r p h = absurd (cc)
      go false e r p (inl i) = true≢false (sym ((same-is o q).1 (sym i)) ∙ e)
      go false e r p (inr i) = r (later (w.key_of same o ps) p) i

-- the second text has all that the first made and stored
pub record Grows {N : Type 0} (t u : Text N) : Type 0 where
  pub more : List (Origin N)
  pub made : u.made ≡ t.made ++ more
  pub stored : (r : Origin N) → IsMember r t.stored → IsMember r u.stored

module _ {N : Type 0} where
  pub grows-refl : (t : Text N) → Grows t t
  grows-refl t = record { more = []; made = sym (append-nil t.made); stored = λ r p. p }

  pub grows-trans : (t u v : Text N) → Grows t u → Grows u v → Grows t v
  grows-trans t u v a b = record {
    more = a.more ++ b.more;
    made = b.made ∙ ap (λ l. l ++ b.more) a.made
        ∙ append_assoc t.made a.more b.more;
    stored = λ r p. b.stored r (a.stored r p);
  }

  module _ (P R : Origin N → Type 0) (to : (r : Origin N) → P r → R r) where
    mutual
      pub outcome-mono : (o : Origin N) → EachOutcome P o → EachOutcome R o
      outcome-mono (Number k) h = tt
      outcome-mono (Named n) h = tt
      outcome-mono (Make c os) h = outcomes-mono os h
      outcome-mono (Define c os) h = h
      outcome-mono (Outcome j d) h = to (Outcome j d) h

      pub outcomes-mono : (os : Origins N) → EachOutcomes P os → EachOutcomes R os
      outcomes-mono NoOrigins h = tt
      outcomes-mono (MoreOrigins o os) h = (outcome-mono o h.0, outcomes-mono os h.1)

  module _ (same : Origin N → Origin N → Bool) where
    pub grows-put : (l : Line N) (t : Text N) → Grows t (w.put same l t)
    grows-put l t = record { more = []; made = sym (append-nil t.made); stored = λ r p. p }

    pub grows-make : (o : Origin N) (l : Line N) (t : Text N) → Grows t (w.make same o l t)
    grows-make o l t = record { more = o ∷ []; made = refl; stored = λ r p. p }

    pub grows-store : (b : Bool) (o : Origin N) (t : Text N) → Grows t (cond b (w.store same o t) t)
    grows-store true o t =
        record { more = []; made = sym (append-nil t.made); stored = λ r p. IsMember-left r t.stored (o ∷ []) p }
    grows-store false o t = grows-refl t

    grows-recalled : (k : Option ℕ) (write : Text N → Text N) (t : Text N) → Grows t (write t)
        → Grows t (w.recalled same k write t)
    grows-recalled None write t h = h
    grows-recalled (Some k) write t h = record { more = []; made = sym (append-nil t.made); stored = λ r p. p }

    pub made-store : (b : Bool) (o : Origin N) (t : Text N) → (cond b (w.store same o t) t).made ≡ t.made
    made-store true o t = refl
    made-store false o t = refl

    module _ (keep : Origin N → Bool) where
      mutual
        pub grows-emit : (o : Origin N) (t : Text N) → Grows t (w.emit same keep o t)
        grows-emit (Number k) t = grows-recalled (w.key_of same (Number k) t.stored) (λ u. w.put same (Numeral k) u) t
            (grows-put (Numeral k) t)
        grows-emit (Named n) t = grows-recalled (w.key_of same (Named n) t.stored)
            (λ u. w.keep_made same keep (Named n) (w.make same (Named n) (Spelled n) u)) t
            (grows-trans t _ _ (grows-make (Named n) (Spelled n) t) (grows-store (keep (Named n)) (Named n) _))
        grows-emit (Make c os) t = grows-recalled (w.key_of same (Make c os) t.stored)
            (λ u. w.keep_made same keep (Make c os) (w.make same (Make c os) (Order c) (w.emit_all same keep os u))) t
            (grows-trans t _ _
            (grows-trans t _ _ (grows-emit_all os t)
            (grows-make (Make c os) (Order c) (w.emit_all same keep os t)))
            (grows-store (keep (Make c os)) (Make c os) _))
        grows-emit (Define c os) t = grows-recalled (w.key_of same (Define c os) t.stored) (λ u. u) t (grows-refl t)
        grows-emit (Outcome j d) t = grows-recalled (w.key_of same (Outcome j d) t.stored) (λ u. u) t (grows-refl t)

        pub grows-emit_all : (os : Origins N) (t : Text N) → Grows t (w.emit_all same keep os t)
        grows-emit_all NoOrigins t = grows-refl t
        grows-emit_all (MoreOrigins o os) t =
            grows-trans t (w.emit same keep o t) _ (grows-emit o t) (grows-emit_all os (w.emit same keep o t))

      module _ (used : Origin N → Bool) where
        pub grows-pops : (k : ℕ) (t : Text N) → Grows t (w.pops same keep used k t)
        grows-pops zero t = grows-refl t
        grows-pops (suc k) t = grows-trans t (w.put same (Order words.Pop) t) _ (grows-put (Order words.Pop) t)
            (grows-pops k (w.put same (Order words.Pop) t))

        pub made-pops : (k : ℕ) (t : Text N) → (w.pops same keep used k t).made ≡ t.made
        made-pops zero t = refl
        made-pops (suc k) t = made-pops k (w.put same (Order words.Pop) t)

        pub grows-outcomes : (d : Origin N) (j : ℕ) (t : Text N) → Grows t (w.outcomes same keep used d j t)
        grows-outcomes d zero t = grows-refl t
        grows-outcomes d (suc j) t =
            let u : Text N = cond (used (Outcome (suc j) d)) (w.store same (Outcome (suc j) d) t) t in
            grows-trans t u _ (grows-store (used (Outcome (suc j) d)) (Outcome (suc j) d) t)
            (grows-trans u (w.put same (Order words.Pop) u) _ (grows-put (Order words.Pop) u)
            (grows-outcomes d j (w.put same (Order words.Pop) u)))

        pub made-outcomes : (d : Origin N) (j : ℕ) (t : Text N) → (w.outcomes same keep used d j t).made ≡ t.made
        made-outcomes d zero t = refl
        made-outcomes d (suc j) t =
            made-outcomes d j
            (w.put same (Order words.Pop)
            (cond (used (Outcome (suc j) d)) (w.store same (Outcome (suc j) d) t) t))
            ∙ made-store (used (Outcome (suc j) d)) (Outcome (suc j) d) t

        pub made-definition : (c : Cmd) (os : Origins N) (t : Text N)
            → (w.emit_definition same keep used (Define c os) t).made ≡ (w.emit_all same keep os t).made
            ++ Define c os ∷ []
        made-definition c os t = made-pops (symbol_count c) _ ∙ made-outcomes (Define c os) (theorem_count c) _

        pub grows-definition : (d : Origin N) (t : Text N) → Grows t (w.emit_definition same keep used d t)
        grows-definition (Number k) t = grows-refl t
        grows-definition (Named n) t = grows-refl t
        grows-definition (Make c os) t = grows-refl t
        grows-definition (Outcome j d) t = grows-refl t
        grows-definition (Define c os) t =
            grows-trans t _ _
            (grows-trans t _ _
            (grows-trans t _ _ (grows-emit_all os t)
            (grows-make (Define c os) (Order c) (w.emit_all same keep os t)))
            (grows-outcomes (Define c os) (theorem_count c) _)) (grows-pops (symbol_count c) _)

        pub grows-definitions : (ds : List (Origin N)) (t : Text N) → Grows t (w.emit_definitions same keep used ds t)
        grows-definitions [] t = grows-refl t
        grows-definitions (d ∷ ds) t = grows-trans t (w.emit_definition same keep used d t) _ (grows-definition d t)
            (grows-definitions ds _)

        pub grows-exports : (es : List (Roots N)) (t : Text N) → Grows t (w.emit_exports same keep used es t)
        grows-exports [] t = grows-refl t
        grows-exports (e ∷ es) t =
            let a : Text N = w.emit same keep e.theorem t in
            let b : Text N = w.emit same keep e.list a in
            let c : Text N = w.emit same keep e.term b in
            grows-trans t a _ (grows-emit e.theorem t)
            (grows-trans a b _ (grows-emit e.list a)
            (grows-trans b c _ (grows-emit e.term b)
            (grows-trans c (w.put same (Order words.Thm) c) _ (grows-put (Order words.Thm) c)
            (grows-exports es (w.put same (Order words.Thm) c)))))
