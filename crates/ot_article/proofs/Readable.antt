-- The lines of a written article are read back.
use Rattle.std.proofs.Common.{◌≡◌, ℕ, zero, suc, ◌+◌, ◌<◌, ◌≤◌, ◌^◌, inl, inr, Bool, true, false, cond}
use Rattle.std.proofs.Common.{List, [], ◌∷◌, ◌++◌, length, Option, None, Some, refl, arith, length-append}
use Rattle.std.specs.Prelude.{pos}
use Rattle.std.specs.Bool.{Decides}
use Rattle.ot_logic.specs.Names.{Name}
use Rattle.ot_logic.specs.Lists.{IsMember}
use Rattle.ot_logic.specs.declared.command.Cmd.TheVariants as words
use Rattle.ot_trace.specs.Origins.{Origin, Origins, Number, Named, Make, Define}
use Rattle.ot_trace.specs.Origins.{Outcome, NoOrigins, MoreOrigins, parts, parts_all}
use Rattle.ot_written.specs.Written as w
use Rattle.ot_written.specs.Written.{Line, Numeral, Spelled, Order, Text, roots_of, theorem_count, symbol_count}
use Rattle.ot_trace.specs.Origins.{Roots}
use Rattle.ot_written.specs.Bytes.{line_text, line_bytes, bytes_of}
use Rattle.ot_article.proofs.LineRun.{IsReadable, AreReadable, IsSayable}
use Rattle.ot_written.proofs.Growth.{key-get}
use Rattle.ot_article.proofs.LineTexts.{in-range}
use Rattle.ot_logic.proofs.Elements.{slice_get-low}
use Rattle.ot_logic.proofs.Members.{IsMember-left, IsMember-right}

abbrev pub AreSayable : Origin Name → Type 0
AreSayable o = (p : Origin Name) → IsMember p (parts o) → IsSayable p

readable-snoc : (ls : List (Line Name)) (l : Line Name) → AreReadable ls → IsReadable l → AreReadable (ls ++ l ∷ [])
readable-snoc [] l h r = (r, tt)
readable-snoc (k ∷ ls) l h r = (h.0, readable-snoc ls l h.1 r)

-- the second text has more lines, which are read back where its keys are small
pub record Longer (t u : Text Name) : Type 0 where
  pub stored : length t.stored ≤ length u.stored
  pub lines : length u.stored + length t.lines ≤ length u.lines + length t.stored
  pub readable : length u.stored < 2 ^ 63 → AreReadable t.lines → AreReadable u.lines

longer-refl : (t : Text Name) → Longer t t
longer-refl t = record { stored = omega arith; lines = omega arith; readable = λ h r. r }

longer-trans : (t u v : Text Name) → Longer t u → Longer u v → Longer t v
longer-trans t u v a b =
    let p : length t.stored ≤ length u.stored = a.stored in
    let q : length u.stored ≤ length v.stored = b.stored in
    let x : length u.stored + length t.lines ≤ length u.lines + length t.stored = a.lines in
    let y : length v.stored + length u.lines ≤ length v.lines + length u.stored = b.lines in
    record { stored = omega arith; lines = omega arith; readable = λ h r. b.readable h (a.readable (omega arith) r) }

module _ (same : Origin Name → Origin Name → Bool) (same-is : (a b : Origin Name) → Decides (same a b) (a ≡ b)) where
  longer-put : (l : Line Name) (t : Text Name) → (length t.stored < 2 ^ 63 → IsReadable l) → Longer t (w.put same l t)
  longer-put l t h =
      let n = length-append t.lines (l ∷ []) in
      record { stored = omega arith; lines = omega arith; readable = λ k r. readable-snoc t.lines l r (h k) }

  longer-make : (o : Origin Name) (l : Line Name) (t : Text Name) → IsReadable l → Longer t (w.make same o l t)
  longer-make o l t h =
      let n = length-append t.lines (l ∷ []) in
      record { stored = omega arith; lines = omega arith; readable = λ k r. readable-snoc t.lines l r h }

  longer-store : (b : Bool) (o : Origin Name) (t : Text Name) → Longer t (cond b (w.store same o t) t)
  longer-store false o t = longer-refl t
  longer-store true o t =
      let key : Line Name = Numeral (pos (length t.stored)) in
      let n = length-append t.lines (key ∷ []) in
      let m = length-append (t.lines ++ key ∷ []) (Order words.Def ∷ []) in
      let s = length-append t.stored (o ∷ []) in
      record {
        stored = omega arith;
        lines = omega arith;
        readable = λ k r. readable-snoc (t.lines ++ key ∷ [])
            (Order words.Def) (readable-snoc t.lines key r (in-range (length t.stored) (omega arith))) tt;
      }

  longer-recalled : (k : Option ℕ) (write : Text Name → Text Name) (o : Origin Name) (t : Text Name)
      → w.key_of same o t.stored ≡ k → Longer t (write t) → Longer t (w.recalled same k write t)
  longer-recalled None write o t e h = h
  longer-recalled (Some k) write o t e h =
      let low = slice_get-low t.stored k o (key-get same same-is o t.stored k e) in
      let u : Text Name = w.put same (Numeral (pos k)) t in
      longer-trans t u (w.put same (Order words.Ref) u)
      (longer-put (Numeral (pos k)) t (λ s. in-range k (omega arith))) (longer-put (Order words.Ref) u (λ s. tt))

  module _ (keep : Origin Name → Bool) where
    mutual
      pub emit-longer : (o : Origin Name) (t : Text Name) → AreSayable o → Longer t (w.emit same keep o t)
      emit-longer (Number k) t h = longer-recalled (w.key_of same (Number k) t.stored) (λ u. w.put same (Numeral k) u)
          (Number k) t refl (longer-put (Numeral k) t (λ s. h (Number k) (inl refl)))
      emit-longer (Named n) t h =
          let u : Text Name = w.make same (Named n) (Spelled n) t in
          longer-recalled (w.key_of same (Named n) t.stored)
          (λ u. w.keep_made same keep (Named n) (w.make same (Named n) (Spelled n) u)) (Named n) t refl
          (longer-trans t u (w.keep_made same keep (Named n) u)
          (longer-make (Named n) (Spelled n) t (h (Named n) (inl refl)))
          (longer-store (keep (Named n)) (Named n) u))
      emit-longer (Make c os) t h =
          let o : Origin Name = Make c os in
          let v : Text Name = w.emit_all same keep os t in
          let u : Text Name = w.make same o (Order c) v in
          longer-recalled (w.key_of same o t.stored)
          (λ u. w.keep_made same keep o (w.make same o (Order c) (w.emit_all same keep os u))) o t refl
          (longer-trans t u (w.keep_made same keep o u)
          (longer-trans t v u (emit_all-longer os t (λ p m. h p (inr m))) (longer-make o (Order c) v tt))
          (longer-store (keep o) o u))
      emit-longer (Define c os) t h = longer-recalled (w.key_of same (Define c os) t.stored) (λ u. u) (Define c os) t
          refl (longer-refl t)
      emit-longer (Outcome j d) t h = longer-recalled (w.key_of same (Outcome j d) t.stored) (λ u. u) (Outcome j d) t
          refl (longer-refl t)

      pub emit_all-longer : (os : Origins Name) (t : Text Name)
          → ((p : Origin Name) → IsMember p (parts_all os) → IsSayable p) → Longer t (w.emit_all same keep os t)
      emit_all-longer NoOrigins t h = longer-refl t
      emit_all-longer (MoreOrigins o os) t h =
          let u : Text Name = w.emit same keep o t in
          longer-trans t u (w.emit_all same keep os u)
          (emit-longer o t (λ p m. h p (IsMember-left p (parts o) (parts_all os) m)))
          (emit_all-longer os u (λ p m. h p (IsMember-right p (parts o) (parts_all os) m)))

    module _ (used : Origin Name → Bool) where
      pops-longer : (k : ℕ) (t : Text Name) → Longer t (w.pops same keep used k t)
      pops-longer zero t = longer-refl t
      pops-longer (suc k) t = longer-trans t (w.put same (Order words.Pop) t) _
          (longer-put (Order words.Pop) t (λ s. tt)) (pops-longer k (w.put same (Order words.Pop) t))

      outcomes-longer : (d : Origin Name) (j : ℕ) (t : Text Name) → Longer t (w.outcomes same keep used d j t)
      outcomes-longer d zero t = longer-refl t
      outcomes-longer d (suc j) t =
          let u : Text Name = cond (used (Outcome (suc j) d)) (w.store same (Outcome (suc j) d) t) t in
          let v : Text Name = w.put same (Order words.Pop) u in
          longer-trans t u _ (longer-store (used (Outcome (suc j) d)) (Outcome (suc j) d) t)
          (longer-trans u v _ (longer-put (Order words.Pop) u (λ s. tt)) (outcomes-longer d j v))

      definition-longer : (d : Origin Name) (t : Text Name) → AreSayable d
          → Longer t (w.emit_definition same keep used d t)
      definition-longer (Number k) t h = longer-refl t
      definition-longer (Named n) t h = longer-refl t
      definition-longer (Make c os) t h = longer-refl t
      definition-longer (Outcome j d) t h = longer-refl t
      definition-longer (Define c os) t h =
          let d : Origin Name = Define c os in
          let v : Text Name = w.emit_all same keep os t in
          let u : Text Name = w.make same d (Order c) v in
          let x : Text Name = w.outcomes same keep used d (theorem_count c) u in
          longer-trans t u _
          (longer-trans t v u (emit_all-longer os t (λ p m. h p (inr m))) (longer-make d (Order c) v tt))
          (longer-trans u x _ (outcomes-longer d (theorem_count c) u) (pops-longer (symbol_count c) x))

      definitions-longer : (ds : List (Origin Name)) (t : Text Name)
          → ((d : Origin Name) → IsMember d ds → AreSayable d) → Longer t (w.emit_definitions same keep used ds t)
      definitions-longer [] t h = longer-refl t
      definitions-longer (d ∷ ds) t h = let u : Text Name = w.emit_definition same keep used d t in
          longer-trans t u _ (definition-longer d t (h d (inl refl))) (definitions-longer ds u (λ e m. h e (inr m)))

      exports-longer : (es : List (Roots Name)) (t : Text Name)
          → ((o : Origin Name) → IsMember o (roots_of es) → AreSayable o)
          → Longer t (w.emit_exports same keep used es t)
      exports-longer [] t h = longer-refl t
      exports-longer (e ∷ es) t h =
          let a : Text Name = w.emit same keep e.theorem t in
          let b : Text Name = w.emit same keep e.list a in
          let c : Text Name = w.emit same keep e.term b in
          let u : Text Name = w.put same (Order words.Thm) c in
          longer-trans t a _ (emit-longer e.theorem t (h e.theorem (inl refl)))
          (longer-trans a b _ (emit-longer e.list a (h e.list (inr (inl refl))))
          (longer-trans b c _ (emit-longer e.term b (h e.term (inr (inr (inl refl)))))
          (longer-trans c u _ (longer-put (Order words.Thm) c (λ s. tt))
          (exports-longer es u (λ o m. h o (inr (inr (inr m))))))))

      bytes-long : (ls : List (Line Name)) → length ls ≤ length (bytes_of ls)
      bytes-long [] = omega arith
      bytes-long (l ∷ ls) =
          let a = length-append (line_bytes l) (bytes_of ls) in
          let b = length-append (line_text l) (10 ∷ []) in
          let c = bytes-long ls in
          omega arith

      pub written-readable : (ds : List (Origin Name)) (es : List (Roots Name))
          → ((o : Origin Name) → IsMember o (ds ++ roots_of es) → AreSayable o)
          → length (bytes_of (w.written same keep used ds es).lines) < 2 ^ 63
          → AreReadable (w.written same keep used ds es).lines
      written-readable ds es h small =
          let begin : Text Name = w.beginning same keep used in
          let mid : Text Name = w.emit_definitions same keep used ds begin in
          let all : Text Name = w.written same keep used ds es in
          let long =
          longer-trans begin mid all
          (definitions-longer ds begin (λ d m. h d (IsMember-left d ds (roots_of es) m)))
          (exports-longer es mid (λ o m. h o (IsMember-right o ds (roots_of es) m))) in
          let x : length all.stored + 2 ≤ length all.lines + 0 = long.lines in
          let y = bytes-long all.lines in
          long.readable (omega arith) (refl, (tt, tt))
