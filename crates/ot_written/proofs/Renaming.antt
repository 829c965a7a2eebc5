-- The article over other names is the article with other names.
use Rattle.std.proofs.Common.{◌≡◌, ℕ, zero, suc, ◌+◌, Bool, true, false, not, cond, List, [], ◌∷◌, ◌++◌}
use Rattle.std.proofs.Common.{length, map, Option, None, Some, inl, inr, refl, sym, ap, ◌∙◌, true≢false}
use Rattle.std.specs.Prelude.{pos, nat_le, ◌||◌}
use Rattle.std.specs.Bool.{Decides}
use Rattle.std.specs.Option.{option_map}
use Rattle.std.specs.List.{flat_map, filter, list_any}
use Rattle.ot_logic.specs.declared.command.Cmd.TheVariants as words
use Rattle.ot_trace.specs.Origins.{Origin, Origins, Number, Named, Make, Define, Outcome, NoOrigins}
use Rattle.ot_trace.specs.Origins.{MoreOrigins, listed, operands, at_or, operand, parts, parts_all}
use Rattle.ot_trace.specs.Origins.{elements, constant_origin, symbols, map_origin, map_origins}
use Rattle.ot_written.specs.Needed as n
use Rattle.ot_written.specs.Written as w
use Rattle.ot_written.specs.Written.{Line, Numeral, Spelled, Order, Text, roots_of, theorem_count, symbol_count}
use Rattle.ot_trace.specs.Origins.{Roots}
use Rattle.ot_written.specs.Uses as u
use Rattle.ot_written.specs.Bytes.{line_with}
use Rattle.ot_written.specs.Laws.{roots_with, RenamedArticleLaw}
use Rattle.ot_trace.specs.Uses.{count}
use Rattle.ot_written.proofs.Filters.{bool_cases}
use Rattle.ot_logic.proofs.Elements.{list_any-image}
use Rattle.std.proofs.lemmas.List.{map-append, length-map}

pub filter-map : {X Y : Type 0} (f : X → Y) (p : Y → Bool) (q : X → Bool) → ((x : X) → p (f x) ≡ q x) → (xs : List X)
    → filter p (map f xs) ≡ map f (filter q xs)
filter-map f p q h [] = refl
filter-map f p q h (x ∷ xs) = go (p (f x)) (q x) (h x) (filter-map f p q h xs)
  where
    go : (a b : Bool) → a ≡ b → filter p (map f xs) ≡ map f (filter q xs)
        → cond a (f x ∷ filter p (map f xs)) (filter p (map f xs)) ≡ map f (cond b (x ∷ filter q xs) (filter q xs))
    go true true e r = ap (λ l. f x ∷ l) r
    go false false e r = r
    go true false e r = absurd (cc)
    go false true e r = absurd (cc)

flat_map-map : {X Y A B : Type 0} (f : X → Y) (g : A → B) (p : Y → List B) (q : X → List A)
    → ((x : X) → p (f x) ≡ map g (q x)) → (xs : List X) → flat_map p (map f xs) ≡ map g (flat_map q xs)
flat_map-map f g p q h [] = refl
flat_map-map f g p q h (x ∷ xs) = (λ i. h x i ++ flat_map-map f g p q h xs i)
    ∙ sym (map-append g (q x) (flat_map q xs))

module _ {M N : Type 0} (f : M → N) where
  abbrev to : Origin M → Origin N
  to = map_origin f

  listed-map : (os : Origins M) → listed (map_origins f os) ≡ map to (listed os)
  listed-map NoOrigins = refl
  listed-map (MoreOrigins o os) = ap (λ l. to o ∷ l) (listed-map os)

  pub operands-map : (o : Origin M) → operands (to o) ≡ map to (operands o)
  operands-map (Number k) = refl
  operands-map (Named n) = refl
  operands-map (Make c os) = listed-map os
  operands-map (Define c os) = listed-map os
  operands-map (Outcome j d) = refl

  mutual
    parts-map : (o : Origin M) → parts (to o) ≡ map to (parts o)
    parts-map (Number k) = refl
    parts-map (Named n) = refl
    parts-map (Make c os) = ap (λ l. Make c (map_origins f os) ∷ l) (parts_all-map os)
    parts-map (Define c os) = ap (λ l. Define c (map_origins f os) ∷ l) (parts_all-map os)
    parts-map (Outcome j d) = ap (λ l. Outcome j (to d) ∷ l) (parts-map d)

    parts_all-map : (os : Origins M) → parts_all (map_origins f os) ≡ map to (parts_all os)
    parts_all-map NoOrigins = refl
    parts_all-map (MoreOrigins o os) = (λ i. parts-map o i ++ parts_all-map os i)
        ∙ sym (map-append to (parts o) (parts_all os))

  at_or-map : (o : Origin M) (k : ℕ) (ps : List (Origin M)) → at_or (to o) k (map to ps) ≡ to (at_or o k ps)
  at_or-map o k [] = refl
  at_or-map o zero (p ∷ ps) = refl
  at_or-map o (suc k) (p ∷ ps) = at_or-map o k ps

  operand-map : (k : ℕ) (o : Origin M) → operand k (to o) ≡ to (operand k o)
  operand-map k o = ap (at_or (to o) k) (operands-map o) ∙ at_or-map o k (operands o)

  elements-map : (o : Origin M) → elements (to o) ≡ map to (elements o)
  elements-map (Make words.Cons (MoreOrigins head (MoreOrigins tail NoOrigins))) =
      ap (λ l. to head ∷ l) (elements-map tail)
  elements-map _ = refl

  constants-map : (ps : List (Origin M)) → map (λ pair. constant_origin (operand 0 pair)) (map to ps)
      ≡ map to (map (λ pair. constant_origin (operand 0 pair)) ps)
  constants-map [] = refl
  constants-map (p ∷ ps) = λ i. constant_origin (operand-map 0 p i) ∷ constants-map ps i

  pub symbols-map : (o : Origin M) → symbols (to o) ≡ map to (symbols o)
  symbols-map (Define words.DefineConst os) = λ i. constant_origin (operand-map 0 (Define words.DefineConst os) i)
      ∷ []
  symbols-map (Define words.DefineConstList os) =
      let d : Origin M = Define words.DefineConstList os in
      ap (λ o. map (λ pair. constant_origin (operand 0 pair)) (elements o)) (operand-map 0 d)
      ∙ ap (map (λ pair. constant_origin (operand 0 pair))) (elements-map (operand 0 d))
      ∙ constants-map (elements (operand 0 d))
  symbols-map (Define words.DefineTypeOp os) =
      let d : Origin M = Define words.DefineTypeOp os in
      λ i. Make words.TypeOp (MoreOrigins (operand-map 0 d i) NoOrigins) ∷ constant_origin (operand-map 1 d i)
      ∷ constant_origin (operand-map 2 d i) ∷ []
  symbols-map _ = refl

  abbrev roots_to : Roots M → Roots N
  roots_to = roots_with f

  pub roots-map : (es : List (Roots M)) → roots_of (map roots_to es) ≡ map to (roots_of es)
  roots-map [] = refl
  roots-map (e ∷ es) = ap (λ l. to e.theorem ∷ to e.list ∷ to e.term ∷ l) (roots-map es)

  abbrev line_to : Line M → Line N
  line_to = line_with f

  abbrev text_to : Text M → Text N
  text_to t = record { lines = map line_to t.lines; stored = map to t.stored; made = map to t.made }

  module _ (same : Origin N → Origin N → Bool) (same_one : Origin M → Origin M → Bool)
      (tells : (a b : Origin M) → same (to a) (to b) ≡ same_one a b) where
    firsts-map : (ds : List (Origin M)) → n.firsts same (map to ds) ≡ map to (n.firsts same_one ds)
    firsts-map [] = refl
    firsts-map (d ∷ ds) = ap (λ l. to d ∷ filter (λ e. not (same (to d) e)) l) (firsts-map ds)
        ∙ ap (λ l. to d ∷ l) (filter-map to (λ e. not (same (to d) e)) (λ e. not (same_one d e))
        (λ e. ap not (tells d e)) (n.firsts same_one ds))

    touches-map : (d r : Origin M) → n.touches same (to d) (to r) ≡ n.touches same_one d r
    touches-map d r =
        ap (list_any (λ p. same p (to d) || list_any (same p) (symbols (to d)))) (parts-map r)
        ∙ list_any-image to (λ p. same p (to d) || list_any (same p) (symbols (to d)))
        (λ p. same_one p d || list_any (same_one p) (symbols d))
        (λ p i. tells p d i || (ap (list_any (same (to p))) (symbols-map d)
        ∙ list_any-image to (same (to p)) (same_one p) (λ q. tells p q) (symbols d)) i) (parts r)

    rounds-map : (k : ℕ) (roots ds : List (Origin M)) → n.rounds same k (map to roots) (map to ds)
        ≡ map to (n.rounds same_one k roots ds)
    rounds-map zero roots ds = refl
    rounds-map (suc k) roots ds =
        let found : List (Origin M) = n.rounds same_one k roots ds in
        ap (λ l. filter (λ d. list_any (n.touches same d) (map to roots ++ l)) (map to ds)) (rounds-map k roots ds)
        ∙ filter-map to (λ d. list_any (n.touches same d) (map to roots ++ map to found))
        (λ d. list_any (n.touches same_one d) (roots ++ found))
        (λ d. ap (list_any (n.touches same (to d))) (sym (map-append to roots found))
        ∙ list_any-image to (n.touches same (to d)) (n.touches same_one d) (touches-map d) (roots ++ found)) ds

    pub definitions-map : (roots ds : List (Origin M)) → n.needed_definitions same (map to roots) (map to ds)
        ≡ map to (n.needed_definitions same_one roots ds)
    definitions-map roots ds = (λ i. n.rounds same (length-map ds to i) (map to roots) (firsts-map ds i))
        ∙ rounds-map (length ds) roots (n.firsts same_one ds)

    origins-map : (roots ds : List (Origin M)) → n.needed_origins same (map to roots) (map to ds)
        ≡ map to (n.needed_origins same_one roots ds)
    origins-map roots ds =
        let found : List (Origin M) = n.needed_definitions same_one roots ds in
        ap (λ l. n.firsts same (flat_map parts (l ++ map to roots))) (definitions-map roots ds)
        ∙ ap (λ l. n.firsts same (flat_map parts l)) (sym (map-append to found roots))
        ∙ ap (n.firsts same) (flat_map-map to to parts parts parts-map (found ++ roots))
        ∙ firsts-map (flat_map parts (found ++ roots))

    count-map : (x : Origin M) (ys : List (Origin M)) → count same (to x) (map to ys) ≡ count same_one x ys
    count-map x [] = refl
    count-map x (y ∷ ys) = λ i. cond (tells x y i) (suc (count-map x ys i)) (count-map x ys i)

    uses-map : (roots ds : List (Origin M)) (o : Origin M) → u.use_count same (map to roots) (map to ds) (to o)
        ≡ u.use_count same_one roots ds o
    uses-map roots ds o =
        let needed : List (Origin M) = n.needed_origins same_one roots ds in
        ap (λ l. count same (to o) (map to roots) + count same (to o) (flat_map operands l)) (origins-map roots ds)
        ∙ ap (λ l. count same (to o) (map to roots) + count same (to o) l)
        (flat_map-map to to operands operands operands-map needed)
        ∙ (λ i. count-map o roots i + count-map o (flat_map operands needed) i)

    -- ---- the text

    key-map : (o : Origin M) (ps : List (Origin M)) → w.key_of same (to o) (map to ps) ≡ w.key_of same_one o ps
    key-map o [] = refl
    key-map o (p ∷ ps) = λ i. cond (tells o p i) (Some 0) (option_map suc (key-map o ps i))

    text-is : (a b : Text N) → a.lines ≡ b.lines → a.stored ≡ b.stored → a.made ≡ b.made → a ≡ b
    text-is a b p q r = λ i. record { lines = p i; stored = q i; made = r i }

    put-map : (l : Line M) (t : Text M) → w.put same (line_to l) (text_to t) ≡ text_to (w.put same_one l t)
    put-map l t = text-is _ _ (sym (map-append line_to t.lines (l ∷ []))) refl refl

    make-map : (o : Origin M) (l : Line M) (t : Text M) → w.make same (to o) (line_to l) (text_to t)
        ≡ text_to (w.make same_one o l t)
    make-map o l t =
        text-is _ _ (sym (map-append line_to t.lines (l ∷ []))) refl (sym (map-append to t.made (o ∷ [])))

    store-map : (o : Origin M) (t : Text M) → w.store same (to o) (text_to t) ≡ text_to (w.store same_one o t)
    store-map o t =
        let key : Line M = Numeral (pos (length t.stored)) in
        text-is _ _
        ((λ i. (map line_to t.lines ++ Numeral (pos (length-map t.stored to i)) ∷ []) ++ Order words.Def ∷ [])
        ∙ ap (λ l. l ++ Order words.Def ∷ []) (sym (map-append line_to t.lines (key ∷ [])))
        ∙ sym (map-append line_to (t.lines ++ key ∷ []) (Order words.Def ∷ [])))
        (sym (map-append to t.stored (o ∷ []))) refl

    kept-map : (a b : Bool) (o : Origin M) (t : Text M) → a ≡ b → cond a (w.store same (to o) (text_to t)) (text_to t)
        ≡ text_to (cond b (w.store same_one o t) t)
    kept-map true true o t e = store-map o t
    kept-map false false o t e = refl
    kept-map true false o t e = absurd (cc)
    kept-map false true o t e = absurd (cc)

    recalled-map : (k j : Option ℕ) → k ≡ j → (write : Text N → Text N) (write_one : Text M → Text M) (t : Text M)
        → write (text_to t) ≡ text_to (write_one t) → w.recalled same k write (text_to t)
        ≡ text_to (w.recalled same_one j write_one t)
    recalled-map None None e write write_one t h = h
    recalled-map (Some k) (Some j) e write write_one t h =
        let same_key : k ≡ j = cc in
        (λ i. w.put same (Order words.Ref) (w.put same (Numeral (pos (same_key i))) (text_to t)))
        ∙ ap (w.put same (Order words.Ref)) (put-map (Numeral (pos j)) t)
        ∙ put-map (Order words.Ref) (w.put same_one (Numeral (pos j)) t)
    recalled-map None (Some j) e write write_one t h = absurd (cc)
    recalled-map (Some k) None e write write_one t h = absurd (cc)

    module _ (keep : Origin N → Bool) (keep_one : Origin M → Bool)
        (keeps : (o : Origin M) → keep (to o) ≡ keep_one o) where
      mutual
        emit-map : (o : Origin M) (t : Text M) → w.emit same keep (to o) (text_to t)
            ≡ text_to (w.emit same_one keep_one o t)
        emit-map (Number k) t = recalled-map _ _ (key-map (Number k) t.stored) (λ v. w.put same (Numeral k) v)
            (λ v. w.put same_one (Numeral k) v) t (put-map (Numeral k) t)
        emit-map (Named m) t =
            recalled-map _ _ (key-map (Named m) t.stored)
            (λ v. w.keep_made same keep (Named (f m)) (w.make same (Named (f m)) (Spelled (f m)) v))
            (λ v. w.keep_made same_one keep_one (Named m) (w.make same_one (Named m) (Spelled m) v)) t
            (ap (w.keep_made same keep (Named (f m))) (make-map (Named m) (Spelled m) t)
            ∙ kept-map (keep (Named (f m))) (keep_one (Named m)) (Named m)
            (w.make same_one (Named m) (Spelled m) t) (keeps (Named m)))
        emit-map (Make c os) t =
            let o : Origin M = Make c os in
            let v : Text M = w.emit_all same_one keep_one os t in
            recalled-map _ _ (key-map o t.stored)
            (λ x. w.keep_made same keep (to o)
            (w.make same (to o) (Order c) (w.emit_all same keep (map_origins f os) x)))
            (λ x. w.keep_made same_one keep_one o
            (w.make same_one o (Order c) (w.emit_all same_one keep_one os x))) t
            (ap (λ x. w.keep_made same keep (to o) (w.make same (to o) (Order c) x)) (emit_all-map os t)
            ∙ ap (w.keep_made same keep (to o)) (make-map o (Order c) v)
            ∙ kept-map (keep (to o)) (keep_one o) o (w.make same_one o (Order c) v) (keeps o))
        emit-map (Define c os) t = recalled-map _ _ (key-map (Define c os) t.stored) (λ v. v) (λ v. v) t refl
        emit-map (Outcome j d) t = recalled-map _ _ (key-map (Outcome j d) t.stored) (λ v. v) (λ v. v) t refl

        emit_all-map : (os : Origins M) (t : Text M) → w.emit_all same keep (map_origins f os) (text_to t)
            ≡ text_to (w.emit_all same_one keep_one os t)
        emit_all-map NoOrigins t = refl
        emit_all-map (MoreOrigins o os) t = ap (w.emit_all same keep (map_origins f os)) (emit-map o t)
            ∙ emit_all-map os (w.emit same_one keep_one o t)

      module _ (used : Origin N → Bool) (used_one : Origin M → Bool)
          (uses : (o : Origin M) → used (to o) ≡ used_one o) where
        pops-map : (k : ℕ) (t : Text M) → w.pops same keep used k (text_to t)
            ≡ text_to (w.pops same_one keep_one used_one k t)
        pops-map zero t = refl
        pops-map (suc k) t = ap (w.pops same keep used k) (put-map (Order words.Pop) t)
            ∙ pops-map k (w.put same_one (Order words.Pop) t)

        outcomes-map : (d : Origin M) (j : ℕ) (t : Text M) → w.outcomes same keep used (to d) j (text_to t)
            ≡ text_to (w.outcomes same_one keep_one used_one d j t)
        outcomes-map d zero t = refl
        outcomes-map d (suc j) t =
            let o : Origin M = Outcome (suc j) d in
            let v : Text M = cond (used_one o) (w.store same_one o t) t in
            ap (λ x. w.outcomes same keep used (to d) j (w.put same (Order words.Pop) x))
            (kept-map (used (to o)) (used_one o) o t (uses o))
            ∙ ap (w.outcomes same keep used (to d) j) (put-map (Order words.Pop) v)
            ∙ outcomes-map d j (w.put same_one (Order words.Pop) v)

        definition-map : (d : Origin M) (t : Text M) → w.emit_definition same keep used (to d) (text_to t)
            ≡ text_to (w.emit_definition same_one keep_one used_one d t)
        definition-map (Number k) t = refl
        definition-map (Named m) t = refl
        definition-map (Make c os) t = refl
        definition-map (Outcome j d) t = refl
        definition-map (Define c os) t =
            let d : Origin M = Define c os in
            let v : Text M = w.emit_all same_one keep_one os t in
            let x : Text M = w.make same_one d (Order c) v in
            ap (λ z. w.pops same keep used (symbol_count c)
            (w.outcomes same keep used (to d) (theorem_count c) (w.make same (to d) (Order c) z)))
            (emit_all-map os t)
            ∙ ap (λ z. w.pops same keep used (symbol_count c) (w.outcomes same keep used (to d) (theorem_count c) z))
            (make-map d (Order c) v)
            ∙ ap (w.pops same keep used (symbol_count c)) (outcomes-map d (theorem_count c) x)
            ∙ pops-map (symbol_count c) (w.outcomes same_one keep_one used_one d (theorem_count c) x)

        all_definitions-map : (ds : List (Origin M)) (t : Text M) → w.emit_definitions same keep used (map to ds)
            (text_to t) ≡ text_to (w.emit_definitions same_one keep_one used_one ds t)
        all_definitions-map [] t = refl
        all_definitions-map (d ∷ ds) t = ap (w.emit_definitions same keep used (map to ds)) (definition-map d t)
            ∙ all_definitions-map ds (w.emit_definition same_one keep_one used_one d t)

        exports-map : (es : List (Roots M)) (t : Text M) → w.emit_exports same keep used (map roots_to es) (text_to t)
            ≡ text_to (w.emit_exports same_one keep_one used_one es t)
        exports-map [] t = refl
        exports-map (e ∷ es) t =
            let a : Text M = w.emit same_one keep_one e.theorem t in
            let b : Text M = w.emit same_one keep_one e.list a in
            let c : Text M = w.emit same_one keep_one e.term b in
            ap (λ z. w.emit_exports same keep used (map roots_to es)
            (w.put same (Order words.Thm) (w.emit same keep (to e.term) (w.emit same keep (to e.list) z))))
            (emit-map e.theorem t)
            ∙ ap (λ z. w.emit_exports same keep used (map roots_to es)
            (w.put same (Order words.Thm) (w.emit same keep (to e.term) z))) (emit-map e.list a)
            ∙ ap (λ z. w.emit_exports same keep used (map roots_to es) (w.put same (Order words.Thm) z))
            (emit-map e.term b)
            ∙ ap (w.emit_exports same keep used (map roots_to es)) (put-map (Order words.Thm) c)
            ∙ exports-map es (w.put same_one (Order words.Thm) c)

        written-map : (ds : List (Origin M)) (es : List (Roots M)) → w.written same keep used (map to ds)
            (map roots_to es) ≡ text_to (w.written same_one keep_one used_one ds es)
        written-map ds es =
            ap (w.emit_exports same keep used (map roots_to es))
            (all_definitions-map ds (w.beginning same_one keep_one used_one)) ∙ exports-map es
            (w.emit_definitions same_one keep_one used_one ds (w.beginning same_one keep_one used_one))

    -- the article over names is that over numbers, with the names of the numbers
    pub article-map : (ds : List (Origin M)) (es : List (Roots M)) → u.article same (map to ds) (map roots_to es)
        ≡ text_to (u.article same_one ds es)
    article-map ds es =
        let roots : List (Origin M) = roots_of es in
        (λ i. w.written same (u.is_shared same (roots-map es i) (map to ds))
        (u.has_use same (roots-map es i) (map to ds)) (n.needed_definitions same (roots-map es i) (map to ds))
        (map roots_to es))
        ∙ ap (λ l. w.written same (u.is_shared same (map to roots) (map to ds))
        (u.has_use same (map to roots) (map to ds)) l (map roots_to es)) (definitions-map roots ds)
        ∙ written-map (u.is_shared same (map to roots) (map to ds)) (u.is_shared same_one roots ds)
        (λ o. ap (nat_le 2) (uses-map roots ds o)) (u.has_use same (map to roots) (map to ds))
        (u.has_use same_one roots ds) (λ o. ap (nat_le 1) (uses-map roots ds o))
        (n.needed_definitions same_one roots ds) es

module _ {M N : Type 0} (f : M → N) (injective : (x y : M) → f x ≡ f y → x ≡ y) where
  mutual
    pub origin-injective : (a b : Origin M) → map_origin f a ≡ map_origin f b → a ≡ b
    origin-injective (Number j) (Number k) p = let e : j ≡ k = cc in ap Number e
    origin-injective (Named x) (Named y) p = let e : f x ≡ f y = cc in ap Named (injective x y e)
    origin-injective (Make c os) (Make d ps) p = let e : c ≡ d = cc in let q : map_origins f os ≡ map_origins f ps =
        cc in λ i. Make (e i) (origins-injective os ps q i)
    origin-injective (Define c os) (Define d ps) p = let e : c ≡ d = cc in
        let q : map_origins f os ≡ map_origins f ps = cc in λ i. Define (e i) (origins-injective os ps q i)
    origin-injective (Outcome j a) (Outcome k b) p = let e : j ≡ k = cc in let q : map_origin f a ≡ map_origin f b =
        cc in λ i. Outcome (e i) (origin-injective a b q i)
    origin-injective a b p = absurd (cc)

    origins-injective : (os ps : Origins M) → map_origins f os ≡ map_origins f ps → os ≡ ps
    origins-injective NoOrigins NoOrigins p = refl
    origins-injective (MoreOrigins a os) (MoreOrigins b ps) p = let q : map_origin f a ≡ map_origin f b = cc in
        let r : map_origins f os ≡ map_origins f ps = cc in
        λ i. MoreOrigins (origin-injective a b q i) (origins-injective os ps r i)
    origins-injective os ps p = absurd (cc)

  tells-of : (same : Origin N → Origin N → Bool) (same_one : Origin M → Origin M → Bool)
      → ((a b : Origin N) → Decides (same a b) (a ≡ b)) → ((a b : Origin M) → Decides (same_one a b) (a ≡ b))
      → (a b : Origin M) → same (map_origin f a) (map_origin f b) ≡ same_one a b
  tells-of same same_one is one a b = elim (bool_cases (same_one a b)) [
    | inl e ↦ (is (map_origin f a) (map_origin f b)).1 (ap (map_origin f) ((one a b).0 e)) ∙ sym e
    | inr e ↦ elim (bool_cases (same (map_origin f a) (map_origin f b))) [
      | inl g ↦ absurd
          (true≢false (sym ((one a b).1 (origin-injective a b ((is (map_origin f a) (map_origin f b)).0 g))) ∙ e))
      | inr g ↦ g ∙ sym e
    ]
  ]

pub renamed-article-law : {M N : Type 0} → RenamedArticleLaw M N
renamed-article-law f injective same same_one is one ds es =
    ap (λ (t : Text _). t.lines) (article-map f same same_one (tells-of f injective same same_one is one) ds es)
