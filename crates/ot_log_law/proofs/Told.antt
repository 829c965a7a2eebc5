-- A log whose tokens can be said: its names are of one kind, and no number is greater than its length allows.
use Rattle.std.specs.Prelude.{if◌then◌else◌, codes}
use Rattle.std.specs.List.{AllByRecursion}
use Rattle.std.proofs.Common.{◌≡◌, ℕ, suc, ◌+◌, ◌≤◌, Bool, true, false, List, [], ◌∷◌, map, length}
use Rattle.std.proofs.Common.{refl, sym, ap, subst, ◌∙◌, arith, length-append, inl, inr, ◌⊎◌}
use Rattle.std.proofs.lemmas.List.{length-map}
use Rattle.ot_logic.specs.Names.{Name}
use Rattle.ot_logic.specs.Naming.{names}
use Rattle.ot_logic.specs.Trees.{Ty, Tys, TyVar, TyOp, NoTys, MoreTys, Tm, Free, Con, Bound, App, Abs}
use Rattle.ot_logic.specs.Hol.{depth_tm, IsWithin, same_ty, same_tm}
use Rattle.ot_log_format.specs.declared.word.RecordWord.{RecordWord}
use Rattle.ot_log_format.specs.Tokens.{Token, Number, Named, Word, spelling}
use Rattle.ot_log_format.specs.Steps.{log_depth}
use Rattle.ot_machine.specs.NamesIn.{TyNamed, TysNamed, TmNamed}
use Rattle.ot_log_records.specs.Entries.{Operand, Count, AName, AType, ATerm, ASequent, Entry, Node}
use Rattle.ot_log_records.specs.Entries.{TypeNode, TermNode, type_list, type_count, node_entry, type_parts}
use Rattle.ot_log_records.specs.Entries.{types_nodes, type_nodes, term_parts, term_nodes, nodes_before}
use Rattle.ot_log_records.specs.Logged.{Log, header, put, token_of, has_node, with_node, write_node}
use Rattle.ot_log_records.specs.Logged.{write_nodes, write_entry, count_sequent, write_sequents}
use Rattle.ot_logic.proofs.Elements.{AllByRecursion-append, position-bound}

-- a word of a log
abbrev pub IsWord : List ℕ → Type 0
IsWord text = ((w : RecordWord) × (text ≡ spelling w)) ⊎ (text ≡ codes "otlog")

module _ (P : Name → Type 0) where
  abbrev pub IsTokenTo : ℕ → Token Name → Type 0
  IsTokenTo n (Number k) = k ≤ n
  IsTokenTo n (Named m) = P m
  IsTokenTo n (Word text) = IsWord text

  abbrev pub AreTokensTo : ℕ → List (Token Name) → Type 0
  AreTokensTo n = AllByRecursion (IsTokenTo n)

  pub tokens-more : (m n : ℕ) → m ≤ n → (ts : List (Token Name)) → AreTokensTo m ts → AreTokensTo n ts
  tokens-more m n le [] h = tt
  tokens-more m n le (t ∷ ts) h = (one t h.0, tokens-more m n le ts h.1)
    where
      one : (t : Token Name) → IsTokenTo m t → IsTokenTo n t
      one (Number k) g = omega arith
      one (Named m) g = g
      one (Word text) g = g

  -- the log
  pub record IsTold (x : Log) : Type 0 where
    pub tokens : AreTokensTo (log_depth + length x.tokens) x.tokens
    pub types : length x.types ≤ length x.tokens
    pub terms : length x.terms ≤ length x.tokens
    pub sequents : x.sequents ≤ length x.tokens

  pub header-told : IsTold header
  header-told = record {
    tokens = (inr refl, (omega arith, tt));
    types = omega arith;
    terms = omega arith;
    sequents = omega arith;
  }

  -- ---- nodes
  abbrev pub IsNode : Node → Type 0
  IsNode (TypeNode (TyVar n)) = P n
  IsNode (TypeNode (TyOp n ts)) = P n
  IsNode (TermNode (Free v)) = P v.name
  IsNode (TermNode (Con n t)) = P n
  IsNode (TermNode (Bound k)) = k ≤ log_depth
  IsNode (TermNode (App f x)) = Unit {0}
  IsNode (TermNode (Abs t b)) = Unit {0}

  abbrev pub AreNodes : List Node → Type 0
  AreNodes = AllByRecursion IsNode

  mutual
    type_parts-told : (t : Ty Name) → TyNamed P t → AreNodes (type_parts t)
    type_parts-told (TyVar n) h = tt
    type_parts-told (TyOp n ts) h = types-told ts h.1

    types-told : (ts : Tys Name) → TysNamed P ts → AreNodes (types_nodes ts)
    types-told NoTys h = tt
    types-told (MoreTys t ts) h =
        AllByRecursion-append IsNode (type_nodes t) (types_nodes ts)
        (AllByRecursion-append IsNode (type_parts t) (TypeNode t ∷ []) (type_parts-told t h.0) (own-type t h.0, tt))
        (types-told ts h.1)

    own-type : (t : Ty Name) → TyNamed P t → IsNode (TypeNode t)
    own-type (TyVar n) h = h
    own-type (TyOp n ts) h = h.0

  pub type-told : (t : Ty Name) → TyNamed P t → AreNodes (type_nodes t)
  type-told t h = AllByRecursion-append IsNode (type_parts t) (TypeNode t ∷ []) (type_parts-told t h)
      (own-type t h, tt)

  -- under n abstractions
  own-term : (n : ℕ) (t : Tm Name) → IsWithin names n t → n + depth_tm names t ≤ log_depth → TmNamed P t
      → IsNode (TermNode t)
  own-term n (Free v) w d h = h.0
  own-term n (Con m t) w d h = h.0
  own-term n (Bound k) w d h = omega arith
  own-term n (App f x) w d h = tt
  own-term n (Abs t b) w d h = tt

  term_parts-told : (n : ℕ) (t : Tm Name) → IsWithin names n t → n + depth_tm names t ≤ log_depth → TmNamed P t
      → AreNodes (term_parts t)
  term_parts-told n (Free v) w d h = type-told v.ty h.1
  term_parts-told n (Con m t) w d h = type-told t h.1
  term_parts-told n (Bound k) w d h = tt
  term_parts-told n (App f x) w d h =
      let df : n + depth_tm names f ≤ log_depth = omega arith in
      let dx : n + depth_tm names x ≤ log_depth = omega arith in
      AllByRecursion-append IsNode (term_nodes f) (term_nodes x)
      (AllByRecursion-append IsNode (term_parts f) (TermNode f ∷ []) (term_parts-told n f w.0 df h.0)
      (own-term n f w.0 df h.0, tt))
      (AllByRecursion-append IsNode (term_parts x) (TermNode x ∷ []) (term_parts-told n x w.1 dx h.1)
      (own-term n x w.1 dx h.1, tt))
  term_parts-told n (Abs t b) w d h =
      let db : suc n + depth_tm names b ≤ log_depth = omega arith in
      AllByRecursion-append IsNode (type_nodes t) (term_nodes b) (type-told t h.0)
      (AllByRecursion-append IsNode (term_parts b) (TermNode b ∷ []) (term_parts-told (suc n) b w db h.1)
      (own-term (suc n) b w db h.1, tt))

  pub term-told : (t : Tm Name) → IsWithin names 0 t → depth_tm names t ≤ log_depth → TmNamed P t
      → AreNodes (term_nodes t)
  term-told t w d h =
      let z : 0 + depth_tm names t ≤ log_depth =
      omega arith in
      AllByRecursion-append IsNode (term_parts t) (TermNode t ∷ []) (term_parts-told 0 t w z h)
      (own-term 0 t w z h, tt)

  -- ---- records
  -- what a record of so many operands names, after so many sequents
  abbrev pub IsOperand : ℕ → ℕ → Operand → Type 0
  IsOperand s n (Count k) = k ≤ log_depth + n
  IsOperand s n (AName m) = P m
  IsOperand s n (AType t) = Unit {0}
  IsOperand s n (ATerm t) = Unit {0}
  IsOperand s n (ASequent i) = i ≤ s

  abbrev pub AreOperands : ℕ → ℕ → List Operand → Type 0
  AreOperands s n = AllByRecursion (IsOperand s n)

  token-told : (x : Log) (n : ℕ) (o : Operand) → IsTold x → IsOperand x.sequents n o
      → IsTokenTo (log_depth + (length x.tokens + suc n)) (token_of x o)
  token-told x n (Count k) t h = omega arith
  token-told x n (AName m) t h = h
  token-told x n (AType u) t h = let p = position-bound (same_ty names u) x.types in let q = t.types in
      omega (arith, p, q)
  token-told x n (ATerm u) t h = let p = position-bound (same_tm names u) x.terms in let q = t.terms in
      omega (arith, p, q)
  token-told x n (ASequent i) t h = let q = t.sequents in omega (arith, q)

  map-told : (x : Log) (n : ℕ) (os : List Operand) → IsTold x → AreOperands x.sequents n os
      → AreTokensTo (log_depth + (length x.tokens + suc n)) (map (token_of x) os)
  map-told x n [] t h = tt
  map-told x n (o ∷ os) t h = (token-told x n o t h.0, map-told x n os t h.1)

  pub put-long : (e : Entry) (x : Log) → length (put e x).tokens ≡ length x.tokens + suc (length e.operands)
  put-long e x =
      length-append x.tokens (Word (spelling e.word) ∷ map (token_of x) e.operands)
      ∙ ap (λ z. length x.tokens + suc z) (length-map e.operands (token_of x))

  put-told : (e : Entry) (x : Log) → IsTold x → AreOperands x.sequents (length e.operands) e.operands
      → AreTokensTo (log_depth + length (put e x).tokens) (put e x).tokens
  put-told e x t h =
      let n = length e.operands in
      let ts = Word (spelling e.word) ∷ map (token_of x) e.operands in
      subst (λ z. AreTokensTo (log_depth + z) (put e x).tokens) (sym (put-long e x))
      (AllByRecursion-append (IsTokenTo (log_depth + (length x.tokens + suc n))) x.tokens ts
      (tokens-more (log_depth + length x.tokens) (log_depth + (length x.tokens + suc n)) (omega arith) x.tokens
      t.tokens)
      (inl (e.word, refl), map-told x n e.operands t h))

  -- ---- nodes that are written
  -- the log has grown by nodes
  pub record Grows (x y : Log) : Type 0 where
    pub told : IsTold y
    pub longer : length x.tokens ≤ length y.tokens
    pub sequents : y.sequents ≡ x.sequents

  types-long : (ts : Tys Name) → length (type_list ts) ≡ type_count ts
  types-long NoTys = refl
  types-long (MoreTys t ts) = ap suc (types-long ts)

  list-operands : (s n : ℕ) (ts : Tys Name) → AreOperands s n (type_list ts)
  list-operands s n NoTys = tt
  list-operands s n (MoreTys t ts) = (tt, list-operands s n ts)

  node-operands : (s : ℕ) (n : Node) → IsNode n
      → AreOperands s (length (node_entry n).operands) (node_entry n).operands
  node-operands s (TypeNode (TyVar n)) h = (h, tt)
  node-operands s (TypeNode (TyOp n ts)) h = let e = types-long ts in (h, (omega (arith, e), list-operands s _ ts))
  node-operands s (TermNode (Free v)) h = (h, (tt, tt))
  node-operands s (TermNode (Con n t)) h = (h, (tt, tt))
  node-operands s (TermNode (Bound k)) h = (omega arith, tt)
  node-operands s (TermNode (App f x)) h = (tt, (tt, tt))
  node-operands s (TermNode (Abs t b)) h = (tt, (tt, tt))

  new-told : (n : Node) (x : Log) → IsTold x → IsNode n → Grows x (with_node n (put (node_entry n) x))
  new-told (TypeNode u) x t h =
      let n = TypeNode u in
      let l = put-long (node_entry n) x in
      let a = t.types in let b = t.terms in let c = t.sequents in
      let one = length-append x.types (u ∷ []) in
      record {
        told = record {
          tokens = put-told (node_entry n) x t (node-operands x.sequents n h);
          types = omega (arith, l, a, one);
          terms = omega (arith, l, b);
          sequents = omega (arith, l, c);
        };
        longer = omega (arith, l);
        sequents = refl;
      }
  new-told (TermNode u) x t h =
      let n = TermNode u in
      let l = put-long (node_entry n) x in
      let a = t.types in let b = t.terms in let c = t.sequents in
      let one = length-append x.terms (u ∷ []) in
      record {
        told = record {
          tokens = put-told (node_entry n) x t (node-operands x.sequents n h);
          types = omega (arith, l, a);
          terms = omega (arith, l, b, one);
          sequents = omega (arith, l, c);
        };
        longer = omega (arith, l);
        sequents = refl;
      }

  node-told : (n : Node) (x : Log) → IsTold x → IsNode n → Grows x (write_node n x)
  node-told n x t h = by (has_node n x)
    where
      by : (b : Bool) → Grows x (if b then x else with_node n (put (node_entry n) x))
      by true = record { told = t; longer = omega arith; sequents = refl }
      by false = new-told n x t h

  pub nodes-told : (ns : List Node) (x : Log) → IsTold x → AreNodes ns → Grows x (write_nodes ns x)
  nodes-told [] x t h = record { told = t; longer = omega arith; sequents = refl }
  nodes-told (n ∷ ns) x t h =
      let a = node-told n x t h.0 in
      let b = nodes-told ns (write_node n x) a.told h.1 in
      let p = a.longer in let q = b.longer in
      record { told = b.told; longer = omega (arith, p, q); sequents = b.sequents ∙ a.sequents }

  -- ---- records that are written
  pub record IsEntry (s : ℕ) (e : Entry) : Type 0 where
    pub nodes : AreNodes (nodes_before e)
    pub operands : AreOperands s (length e.operands) e.operands

  pub record Puts (e : Entry) (x y : Log) : Type 0 where
    pub told : IsTold y
    pub longer : x.sequents + suc (length e.operands) ≤ length y.tokens
    pub sequents : y.sequents ≡ x.sequents

  pub entry-told : (e : Entry) (x : Log) → IsTold x → IsEntry x.sequents e → Puts e x (write_entry e x)
  entry-told e x t h =
      let g = nodes-told (nodes_before e) x t h.nodes in
      let mid = write_nodes (nodes_before e) x in
      let l = put-long e mid in
      let a = g.told.types in let b = g.told.terms in let c = g.told.sequents in let s = g.sequents in
      record {
        told = record {
          tokens = put-told e mid g.told
              (subst (λ z. AreOperands z (length e.operands) e.operands) (sym g.sequents) h.operands);
          types = omega (arith, l, a);
          terms = omega (arith, l, b);
          sequents = omega (arith, l, c);
        };
        longer = omega (arith, l, c, s);
        sequents = g.sequents;
      }

  pub count-told : (e : Entry) (x : Log) → Puts e x (write_entry e x) → IsTold (count_sequent (write_entry e x))
  count-told e x p =
      let l = p.longer in
      let s = p.sequents in
      record { tokens = p.told.tokens; types = p.told.types; terms = p.told.terms; sequents = omega (arith, l, s) }

  abbrev pub AreEntries : ℕ → List Entry → Type 0
  AreEntries s [] = Unit {0}
  AreEntries s (e ∷ es) = IsEntry s e × AreEntries (suc s) es

  pub sequents-told : (es : List Entry) (x : Log) → IsTold x → AreEntries x.sequents es → IsTold (write_sequents es x)
  sequents-told [] x t h = t
  sequents-told (e ∷ es) x t h =
      let p = entry-told e x t h.0 in
      sequents-told es (count_sequent (write_entry e x)) (count-told e x p)
      (subst (λ z. AreEntries (suc z) es) (sym p.sequents) h.1)
