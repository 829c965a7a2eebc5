-- Running what is emitted for an origin.
use Rattle.std.proofs.Common.{◌≡◌, ℕ, Bool, List, [], ◌∷◌, ◌++◌, Option, None}
use Rattle.std.proofs.Common.{Some, Ok, refl, sym, ap, subst, ◌∙◌, append_assoc}
use Rattle.std.proofs.lemmas.List.{append-nil}
use Rattle.std.specs.Bool.{Decides}
use Rattle.ot_logic.specs.Names.{Name}
use Rattle.ot_logic.specs.Lists.{IsMember, AreDistinct}
use Rattle.ot_logic.specs.Answers.{◌>>=◌}
use Rattle.ot_trace.specs.Origins.{Origin, Origins, Number, Named, Make, Define, Outcome, NoOrigins, MoreOrigins}
use Rattle.ot_machine.specs.Objects.{Object, number, name}
use Rattle.ot_machine.specs.States.{Entry, Export}
use Rattle.ot_machine.specs.Places.{origins_of}
use Rattle.ot_machine.specs.Makers.{maker}
use Rattle.ot_machine.specs.Values.{applied, value, values}
use Rattle.ot_written.specs.Written as w
use Rattle.ot_written.specs.Written.{Numeral, Spelled, Order, Text}
use Rattle.ot_written.proofs.Settled.{EachOutcome, EachOutcomes}
use Rattle.ot_article.proofs.Writable.{AxiomsApart}
use Rattle.ot_written.proofs.Members.{distinct-front, distinct-fresh}
use Rattle.ot_written.proofs.Growth.{Grows, grows-make, grows-emit, grows-emit_all}
use Rattle.ot_written.proofs.Growth.{made-store, outcomes-mono, key-get, key-none}
use Rattle.ot_article.proofs.Frames.{objects_of, entry}
use Rattle.ot_article.proofs.RowsHere.{AreFit}
use Rattle.ot_article.proofs.Simulated.{IsWritten, number-written, name-written, recall-written}
use Rattle.ot_article.proofs.Making.{word-written, stored-where}
use Rattle.ot_logic.proofs.Members.{IsMember-left}
use Rattle.ot_logic.proofs.Results.{bind-ok}

-- what a text made is distinct, and its axioms are apart
pub record IsClean (ms : List (Origin Name)) : Type 0 where
  pub distinct : AreDistinct ms
  pub apart : AxiomsApart ms

pub clean-front : (t u : Text Name) → Grows t u → IsClean u.made → IsClean t.made
clean-front t u g c =
    let d : AreDistinct (t.made ++ g.more) = subst (λ l. AreDistinct l) g.made c.distinct in
    let p : AxiomsApart (t.made ++ g.more) = subst AxiomsApart g.made c.apart in
    record {
      distinct = distinct-front t.made g.more d;
      apart = λ a b v u x y. p a b v u (IsMember-left a t.made g.more x) (IsMember-left b t.made g.more y);
    }

-- the entries of origins with their values
abbrev pub paired : Origins Name → List Object → List Entry
paired NoOrigins vs = []
paired (MoreOrigins o os) [] = []
paired (MoreOrigins o os) (v ∷ vs) = entry v o ∷ paired os vs

pub paired-is : (os : Origins Name) (vs : List Object) → values os ≡ Ok vs → (origins_of (paired os vs) ≡ os)
    × (objects_of (paired os vs) ≡ vs) × AreFit (paired os vs)
paired-is NoOrigins vs p = (refl, (let e : [] ≡ vs = cc in e), tt)
paired-is (MoreOrigins o os) vs p =
    let a = bind-ok (value o) (λ v. values os >>= λ us. Ok (v ∷ us)) vs p in
    let b = bind-ok (values os) (λ us. Ok (a.0 ∷ us)) vs a.2 in
    let r = paired-is os b.0 b.1 in
    let e : a.0 ∷ b.0 ≡ vs = let f : Ok (a.0 ∷ b.0) ≡ Ok vs = b.2 in cc in
    subst (λ z. (origins_of (paired (MoreOrigins o os) z) ≡ MoreOrigins o os)
    × (objects_of (paired (MoreOrigins o os) z) ≡ z) × AreFit (paired (MoreOrigins o os) z)) e
    (ap (MoreOrigins o) r.0, ap (λ z. a.0 ∷ z) r.1, (a.1, r.2))

module _ (same : Origin Name → Origin Name → Bool) (same-is : (a b : Origin Name) → Decides (same a b) (a ≡ b))
    (keep : Origin Name → Bool) where
  recalled-runs : (k : Option ℕ) (write : Text Name → Text Name) (t : Text Name) (st : List Entry) (xs : List Export)
      (o : Origin Name) (v : Object) → w.key_of same o t.stored ≡ k → value o ≡ Ok v → IsWritten t st xs
      → IsClean (w.recalled same k write t).made
      → (¬ (IsMember o t.stored) → IsClean (write t).made → IsWritten (write t) (st ++ entry v o ∷ []) xs)
      → IsWritten (w.recalled same k write t) (st ++ entry v o ∷ []) xs
  recalled-runs None write t st xs o v e h i c new = new (key-none same same-is o t.stored e) c
  recalled-runs (Some k) write t st xs o v e h i c new =
      recall-written same t st xs o v k h (key-get same same-is o t.stored k e) i

  mutual
    pub emit-runs : (o : Origin Name) (t : Text Name) (st : List Entry) (xs : List Export) (v : Object)
        → EachOutcome (λ r. IsMember r t.stored) o → value o ≡ Ok v → IsClean (w.emit same keep o t).made
        → IsWritten t st xs → IsWritten (w.emit same keep o t) (st ++ entry v o ∷ []) xs
    emit-runs (Number k) t st xs v h e c i =
        recalled-runs (w.key_of same (Number k) t.stored) (λ u. w.put same (Numeral k) u) t st xs (Number k) v refl e
        i c
        (λ new d. let f : number k ≡ v = cc in
        subst (λ z. IsWritten (w.put same (Numeral k) t) (st ++ entry z (Number k) ∷ []) xs) f
        (number-written same t st xs k i))
    emit-runs (Named n) t st xs v h e c i =
        recalled-runs (w.key_of same (Named n) t.stored)
        (λ u. w.keep_made same keep (Named n) (w.make same (Named n) (Spelled n) u)) t st xs (Named n) v refl e i
        c
        (λ new d. stored-where same (keep (Named n)) (w.make same (Named n) (Spelled n) t) st xs (Named n) v e
        (let f : name n ≡ v = cc in
        subst (λ z. IsWritten (w.make same (Named n) (Spelled n) t) (st ++ entry z (Named n) ∷ []) xs) f
        (name-written same t st xs n i)))
    emit-runs (Make c os) t st xs v h e q i =
        let o : Origin Name = Make c os in
        let u : Text Name = w.emit_all same keep os t in
        let given = bind-ok (values os) (applied (maker c)) v e in
        let vs : List Object = given.0 in
        let pairs = paired-is os vs given.1 in
        let objects : values os ≡ Ok (objects_of (paired os vs)) = given.1 ∙ ap Ok (sym pairs.1) in
        recalled-runs (w.key_of same o t.stored)
        (λ u. w.keep_made same keep o (w.make same o (Order c) (w.emit_all same keep os u))) t st xs o v refl e i
        q
        (λ new d.
        let made : IsClean (u.made ++ o ∷ []) =
        subst (λ l. IsClean l) (made-store same (keep o) o (w.make same o (Order c) u)) d in
        let front : IsClean u.made = clean-front u (w.make same o (Order c) u) (grows-make same o (Order c) u) made in
        let rest : IsWritten u (st ++ paired os vs) xs = emit_all-runs os t st xs vs h given.1 front i in
        stored-where same (keep o) (w.make same o (Order c) u) st xs o v e
        (word-written same u st (paired os vs) xs c os v pairs.0 pairs.2 objects
        (ap (applied (maker c)) pairs.1 ∙ given.2) (distinct-fresh u.made o made.distinct) made.apart rest))
    emit-runs (Define c os) t st xs v h e q i = absurd (cc)
    emit-runs (Outcome j d) t st xs v h e q i =
        recalled-runs (w.key_of same (Outcome j d) t.stored) (λ u. u) t st xs (Outcome j d) v refl e i q
        (λ new c. absurd (new h))

    pub emit_all-runs : (os : Origins Name) (t : Text Name) (st : List Entry) (xs : List Export) (vs : List Object)
        → EachOutcomes (λ r. IsMember r t.stored) os → values os ≡ Ok vs → IsClean (w.emit_all same keep os t).made
        → IsWritten t st xs → IsWritten (w.emit_all same keep os t) (st ++ paired os vs) xs
    emit_all-runs NoOrigins t st xs vs h e c i = subst (λ l. IsWritten t l xs) (sym (append-nil st)) i
    emit_all-runs (MoreOrigins o os) t st xs vs h e c i =
        let a = bind-ok (value o) (λ v. values os >>= λ us. Ok (v ∷ us)) vs e in
        let b = bind-ok (values os) (λ us. Ok (a.0 ∷ us)) vs a.2 in
        let f : a.0 ∷ b.0 ≡ vs = let g : Ok (a.0 ∷ b.0) ≡ Ok vs = b.2 in cc in
        let t1 : Text Name = w.emit same keep o t in
        let first : IsWritten t1 (st ++ entry a.0 o ∷ []) xs = emit-runs o t st xs a.0 h.0 a.1
        (clean-front t1 (w.emit_all same keep os t1) (grows-emit_all same keep os t1) c) i in
        let later : EachOutcomes (λ r. IsMember r t1.stored) os = outcomes-mono (λ r. IsMember r t.stored)
        (λ r. IsMember r t1.stored) ((grows-emit same keep o t).stored) os h.1 in
        let rest : IsWritten (w.emit_all same keep os t1) ((st ++ entry a.0 o ∷ []) ++ paired os b.0) xs =
        emit_all-runs os t1 (st ++ entry a.0 o ∷ []) xs b.0 later b.1 c first in
        subst (λ z. IsWritten (w.emit_all same keep os t1) (st ++ paired (MoreOrigins o os) z) xs) f
        (subst (λ l. IsWritten (w.emit_all same keep os t1) l xs) (append_assoc st (entry a.0 o ∷ []) (paired os b.0))
        rest)
