-- A log whose tokens are read back: types and terms.
use Rattle.std.specs.Prelude.{nat_le}
use Rattle.std.specs.List.{flat_map}
use Rattle.std.proofs.Common.{◌≡◌, ℕ, ◌≤◌, Bool, true, false, cond, List, [], ◌∷◌, ◌++◌, map}
use Rattle.std.proofs.Common.{length, Some, Ok, refl, sym, ap, subst, ◌∙◌, arith, append_assoc}
use Rattle.ot_logic.specs.Names.{Name}
use Rattle.ot_logic.specs.Naming.{names}
use Rattle.ot_logic.specs.Trees.{Ty, Tys, TyVar, TyOp, NoTys, MoreTys, Tm, Free, Con, Bound, App, Abs}
use Rattle.ot_logic.specs.Hol.{depth_ty, depth_tm}
use Rattle.ot_logic.specs.Answers.{◌>>=◌, unless}
use Rattle.ot_log_format.specs.Tokens.{LogNesting, Token, Word, spelling}
use Rattle.ot_log_format.specs.Steps.{log_depth}
use Rattle.ot_log_format.specs.State.{LogState, Change, nothing_made, makes_type, makes_term}
use Rattle.ot_log_format.specs.Records.{RecordForm, Makes, AskType, ask_each, arguments, form}
use Rattle.ot_log_records.specs.Entries.{Operand, Count, AName, AType, ATerm, ASequent, Entry, Node, TypeNode}
use Rattle.ot_log_records.specs.Entries.{TermNode, node_entry, type_list, type_count, type_parts, types_nodes}
use Rattle.ot_log_records.specs.Entries.{type_nodes, term_parts, term_nodes, operand_nodes, nodes_before}
use Rattle.ot_log_records.specs.Logged.{Log, header, put, token_of, token_among, is_among}
use Rattle.ot_log_records.specs.Logged.{has_node, with_node, write_node, write_nodes, write_entry}
use Rattle.ot_log_records.proofs.Noding.{nodes-append, nodes-has}
use Rattle.ot_log_records.specs.Closed.{parts_of, nodes_of, AreAmong}
use Rattle.ot_log_records.proofs.Reading.{Reads, reads-then}
use Rattle.ot_log_records.proofs.Feeding.{feed, AreIn, tokens_for, record-reads, spelled-word}

-- ---- what a record of a type or a term names is there

among-split : (ns ms : List Node) (tys : List (Ty Name)) (tms : List (Tm Name)) → AreAmong (ns ++ ms) tys tms
    → AreAmong ns tys tms × AreAmong ms tys tms
among-split [] ms tys tms h = (tt, h)
among-split (n ∷ ns) ms tys tms h = let r = among-split ns ms tys tms h.1 in ((h.0, r.0), r.1)

among-last : (n : Node) (tys : List (Ty Name)) (tms : List (Tm Name)) → AreAmong (nodes_of n) tys tms
    → is_among n tys tms ≡ true
among-last n tys tms h = (among-split (parts_of n) (n ∷ []) tys tms h).1.0

types-in : (ts : Tys Name) (tys : List (Ty Name)) (tms : List (Tm Name)) → AreAmong (types_nodes ts) tys tms
    → AreIn tys tms (type_list ts)
types-in NoTys tys tms h = tt
types-in (MoreTys t ts) tys tms h =
    let r = among-split (type_nodes t) (types_nodes ts) tys tms h in
    (among-last (TypeNode t) tys tms r.0, types-in ts tys tms r.1)

operands-in : (n : Node) (tys : List (Ty Name)) (tms : List (Tm Name)) → AreAmong (parts_of n) tys tms
    → AreIn tys tms (node_entry n).operands
operands-in (TypeNode (TyVar n)) tys tms h = tt
operands-in (TypeNode (TyOp n ts)) tys tms h = types-in ts tys tms h
operands-in (TermNode (Free v)) tys tms h = (among-last (TypeNode v.ty) tys tms h, tt)
operands-in (TermNode (Con n t)) tys tms h = (among-last (TypeNode t) tys tms h, tt)
operands-in (TermNode (Bound k)) tys tms h = tt
operands-in (TermNode (App f x)) tys tms h =
    let r = among-split (term_nodes f) (term_nodes x) tys tms h in
    (among-last (TermNode f) tys tms r.0, (among-last (TermNode x) tys tms r.1, tt))
operands-in (TermNode (Abs t b)) tys tms h =
    let r = among-split (type_nodes t) (term_nodes b) tys tms h in
    (among-last (TypeNode t) tys tms r.0, (among-last (TermNode b) tys tms r.1, tt))

-- ---- and makes it

abbrev pub listed : Tys Name → List (Ty Name)
listed NoTys = []
listed (MoreTys t ts) = t ∷ listed ts

listed-back : (ts : Tys Name) → arguments (listed ts) ≡ ts
listed-back NoTys = refl
listed-back (MoreTys t ts) = ap (MoreTys t) (listed-back ts)

feed-types : (st : LogState Name) (ts : Tys Name) (next : List (Ty Name) → RecordForm names)
    → feed st (type_list ts) (ask_each AskType (type_count ts) next) ≡ feed st [] (next (listed ts))
feed-types st NoTys next = refl
feed-types st (MoreTys t ts) next = feed-types st ts (λ us. next (t ∷ us))

abbrev makes : Node → Change names
makes (TypeNode t) = makes_type names t
makes (TermNode t) = makes_term names t

feed-node : (st : LogState Name) (n : Node) → feed st (node_entry n).operands (form names (node_entry n).word)
    ≡ Some (makes n)
feed-node st (TypeNode (TyVar n)) = refl
feed-node st (TypeNode (TyOp n ts)) =
    feed-types st ts (λ us. Makes (makes_type names (TyOp n (arguments us))))
    ∙ ap (λ us. Some (makes_type names (TyOp n us))) (listed-back ts)
feed-node st (TermNode (Free v)) = refl
feed-node st (TermNode (Con n t)) = refl
feed-node st (TermNode (Bound k)) = refl
feed-node st (TermNode (App f x)) = refl
feed-node st (TermNode (Abs t b)) = refl

-- within the limit of a log
abbrev pub IsWithin : Node → Type 0
IsWithin (TypeNode t) = depth_ty names t ≤ log_depth
IsWithin (TermNode t) = depth_tm names t ≤ log_depth

abbrev pub made : Node → LogState Name → LogState Name
made (TypeNode t) st = record st { types = st.types ++ t ∷ [] }
made (TermNode t) st = record st { terms = st.terms ++ t ∷ [] }

passes : (m n : ℕ) → m ≤ n → nat_le m n ≡ true
passes m n h = grind arith

makes-node : (n : Node) (st : LogState Name) → IsWithin n → makes n st ≡ Ok (made n st)
makes-node (TypeNode t) st h =
    ap (λ b. unless LogNesting b >>= λ _. Ok (made (TypeNode t) st)) (passes (depth_ty names t) log_depth h)
makes-node (TermNode t) st h =
    ap (λ b. unless LogNesting b >>= λ _. Ok (made (TermNode t) st)) (passes (depth_tm names t) log_depth h)

-- ---- a log whose tokens are read back to a state

pub record Stands (x : Log) (st : LogState Name) : Type 0 where
  pub body : List (Token Name)
  pub tokens : x.tokens ≡ header.tokens ++ body
  pub reads : Reads names nothing_made body st
  pub types : st.types ≡ x.types
  pub terms : st.terms ≡ x.terms
  pub sequents : length st.sequents ≡ x.sequents

-- the same sequents, assumptions, definitions and results
pub record SameMade (old new : LogState Name) : Type 0 where
  pub sequents : new.sequents ≡ old.sequents
  pub assumptions : new.assumptions ≡ old.assumptions
  pub definitions : new.definitions ≡ old.definitions
  pub results : new.results ≡ old.results

same-made : (n : Node) (st : LogState Name) → SameMade st (made n st)
same-made (TypeNode t) st = record { sequents = refl; assumptions = refl; definitions = refl; results = refl }
same-made (TermNode t) st = record { sequents = refl; assumptions = refl; definitions = refl; results = refl }

-- a record that makes `now`
pub put-reads : (e : Entry) (x : Log) (st now : LogState Name) (c : Change names) (s : Stands x st)
    → AreIn x.types x.terms e.operands → feed st e.operands (form names e.word) ≡ Some c → c st ≡ Ok now
    → (body : List (Token Name)) × ((put e x).tokens ≡ header.tokens ++ body) × Reads names nothing_made body now
put-reads e x st now c s there f k =
    let ts = Word (spelling e.word) ∷ map (token_of x) e.operands in
    let same : tokens_for st e.operands ≡ map (token_of x) e.operands =
    λ i. map (token_among (s.types i) (s.terms i)) e.operands in
    let in_state = subst (λ z. AreIn z x.terms e.operands) (sym s.types) there in
    let in_both = subst (λ z. AreIn st.types z e.operands) (sym s.terms) in_state in
    let one : Reads names st ts now =
    subst (λ us. Reads names st (Word (spelling e.word) ∷ us) now) same
    (record-reads st now e.word e.operands c in_both f k (spelled-word e.word)) in (
      s.body ++ ts,
      ap (λ z. z ++ ts) s.tokens ∙ append_assoc header.tokens s.body ts,
      reads-then names nothing_made st now s.body ts s.reads one,
    )

new-stands : (n : Node) (x : Log) (st : LogState Name) → Stands x st → IsWithin n
    → AreAmong (parts_of n) x.types x.terms
    → Stands (with_node n (put (node_entry n) x)) (made n st)
new-stands (TypeNode t) x st s w a =
    let n = TypeNode t in
    let (body, tokens, reads) = put-reads (node_entry n) x st (made n st) (makes n)
    s (operands-in n x.types x.terms a) (feed-node st n) (makes-node n st w) in
    record {
      body = body;
      tokens = tokens;
      reads = reads;
      types = ap (λ z. z ++ t ∷ []) s.types;
      terms = s.terms;
      sequents = s.sequents;
    }
new-stands (TermNode t) x st s w a =
    let n = TermNode t in
    let (body, tokens, reads) = put-reads (node_entry n) x st (made n st) (makes n)
    s (operands-in n x.types x.terms a) (feed-node st n) (makes-node n st w) in
    record {
      body = body;
      tokens = tokens;
      reads = reads;
      types = s.types;
      terms = ap (λ z. z ++ t ∷ []) s.terms;
      sequents = s.sequents;
    }

-- a node, behind its parts
pub node-stands : (n : Node) (x : Log) (st : LogState Name) → Stands x st → IsWithin n
    → AreAmong (parts_of n) x.types x.terms
    → (now : LogState Name) × Stands (write_node n x) now × SameMade st now
node-stands n x st s w a = by (has_node n x)
  where
    by : (b : Bool) → (now : LogState Name) × Stands (cond b x (with_node n (put (node_entry n) x))) now
        × SameMade st now
    by true = (st, s, record { sequents = refl; assumptions = refl; definitions = refl; results = refl })
    by false = (made n st, new-stands n x st s w a, same-made n st)

-- ---- nodes one after another

abbrev pub AreWithin : List Node → Type 0
AreWithin [] = Unit {0}
AreWithin (n ∷ ns) = IsWithin n × AreWithin ns

pub within-split : (ns ms : List Node) → AreWithin (ns ++ ms) → AreWithin ns × AreWithin ms
within-split [] ms h = (tt, h)
within-split (n ∷ ns) ms h = let r = within-split ns ms h.1 in ((h.0, r.0), r.1)

-- the log with these nodes stands, and nothing but types and terms is new
abbrev pub Goes : Log → LogState Name → List Node → Type 0
Goes x st ns = (now : LogState Name) × Stands (write_nodes ns x) now × SameMade st now

same-then : (a b c : LogState Name) → SameMade a b → SameMade b c → SameMade a c
same-then a b c p q = record {
  sequents = q.sequents ∙ p.sequents;
  assumptions = q.assumptions ∙ p.assumptions;
  definitions = q.definitions ∙ p.definitions;
  results = q.results ∙ p.results;
}

goes-none : (x : Log) (st : LogState Name) → Stands x st → Goes x st []
goes-none x st s = (st, s, record { sequents = refl; assumptions = refl; definitions = refl; results = refl })

pub goes-then : (ns ms : List Node) (x : Log) (st : LogState Name) → Goes x st ns
    → ((now : LogState Name) → Stands (write_nodes ns x) now → Goes (write_nodes ns x) now ms) → Goes x st (ns ++ ms)
goes-then ns ms x st (mid, s, p) more =
    let (now, t, q) = more mid s in
    (now, subst (λ z. Stands z now) (sym (nodes-append ns ms x)) t, same-then st mid now p q)

-- a node behind its parts
goes-own : (n : Node) (x : Log) (st : LogState Name) → IsWithin n → Goes x st (parts_of n) → Goes x st (nodes_of n)
goes-own n x st w g =
    goes-then (parts_of n) (n ∷ []) x st g (λ now s.
    node-stands n (write_nodes (parts_of n) x) now s w (nodes-has (parts_of n) x))

last-within : (n : Node) → AreWithin (nodes_of n) → IsWithin n
last-within n h = (within-split (parts_of n) (n ∷ []) h).1.0

front-within : (n : Node) → AreWithin (nodes_of n) → AreWithin (parts_of n)
front-within n h = (within-split (parts_of n) (n ∷ []) h).0

mutual
  type_parts-stand : (t : Ty Name) (x : Log) (st : LogState Name) → AreWithin (type_parts t) → Stands x st
      → Goes x st (type_parts t)
  type_parts-stand (TyVar n) x st w s = goes-none x st s
  type_parts-stand (TyOp n ts) x st w s = types-stand ts x st w s

  types-stand : (ts : Tys Name) (x : Log) (st : LogState Name) → AreWithin (types_nodes ts) → Stands x st
      → Goes x st (types_nodes ts)
  types-stand NoTys x st w s = goes-none x st s
  types-stand (MoreTys t ts) x st w s =
      let r = within-split (type_nodes t) (types_nodes ts) w in
      goes-then (type_nodes t) (types_nodes ts) x st
      (goes-own (TypeNode t) x st (last-within (TypeNode t) r.0)
      (type_parts-stand t x st (front-within (TypeNode t) r.0) s))
      (λ now k. types-stand ts (write_nodes (type_nodes t) x) now r.1 k)

-- a type with its parts
pub type-stands : (t : Ty Name) (x : Log) (st : LogState Name) → AreWithin (type_nodes t) → Stands x st
    → Goes x st (type_nodes t)
type-stands t x st w s =
    goes-own (TypeNode t) x st (last-within (TypeNode t) w) (type_parts-stand t x st (front-within (TypeNode t) w) s)

term_parts-stand : (t : Tm Name) (x : Log) (st : LogState Name) → AreWithin (term_parts t) → Stands x st
    → Goes x st (term_parts t)
term_parts-stand (Free v) x st w s = type-stands v.ty x st w s
term_parts-stand (Con n t) x st w s = type-stands t x st w s
term_parts-stand (Bound k) x st w s = goes-none x st s
term_parts-stand (App f y) x st w s =
    let r = within-split (term_nodes f) (term_nodes y) w in
    goes-then (term_nodes f) (term_nodes y) x st
    (goes-own (TermNode f) x st (last-within (TermNode f) r.0)
    (term_parts-stand f x st (front-within (TermNode f) r.0) s))
    (λ now k. goes-own (TermNode y) (write_nodes (term_nodes f) x) now (last-within (TermNode y) r.1)
    (term_parts-stand y (write_nodes (term_nodes f) x) now (front-within (TermNode y) r.1) k))
term_parts-stand (Abs t b) x st w s =
    let r = within-split (type_nodes t) (term_nodes b) w in
    goes-then (type_nodes t) (term_nodes b) x st (type-stands t x st r.0 s)
    (λ now k. goes-own (TermNode b) (write_nodes (type_nodes t) x) now (last-within (TermNode b) r.1)
    (term_parts-stand b (write_nodes (type_nodes t) x) now (front-within (TermNode b) r.1) k))

-- a term with its parts
pub term-stands : (t : Tm Name) (x : Log) (st : LogState Name) → AreWithin (term_nodes t) → Stands x st
    → Goes x st (term_nodes t)
term-stands t x st w s =
    goes-own (TermNode t) x st (last-within (TermNode t) w) (term_parts-stand t x st (front-within (TermNode t) w) s)

pub operand-stands : (o : Operand) (x : Log) (st : LogState Name) → AreWithin (operand_nodes o) → Stands x st
    → Goes x st (operand_nodes o)
operand-stands (Count k) x st w s = goes-none x st s
operand-stands (AName n) x st w s = goes-none x st s
operand-stands (AType t) x st w s = type-stands t x st w s
operand-stands (ATerm t) x st w s = term-stands t x st w s
operand-stands (ASequent i) x st w s = goes-none x st s

-- all that a record names
pub operands-stand : (os : List Operand) (x : Log) (st : LogState Name) → AreWithin (flat_map operand_nodes os)
    → Stands x st
    → Goes x st (flat_map operand_nodes os)
operands-stand [] x st w s = goes-none x st s
operands-stand (o ∷ os) x st w s =
    let r = within-split (operand_nodes o) (flat_map operand_nodes os) w in
    goes-then (operand_nodes o) (flat_map operand_nodes os) x st (operand-stands o x st r.0 s)
    (λ now k. operands-stand os (write_nodes (operand_nodes o) x) now r.1 k)

-- what was written before a record is there
operand-there : (o : Operand) (os : List Operand) (tys : List (Ty Name)) (tms : List (Tm Name))
    → AreAmong (operand_nodes o) tys tms → AreIn tys tms os → AreIn tys tms (o ∷ os)
operand-there (Count k) os tys tms h r = r
operand-there (AName n) os tys tms h r = r
operand-there (AType t) os tys tms h r = (among-last (TypeNode t) tys tms h, r)
operand-there (ATerm t) os tys tms h r = (among-last (TermNode t) tys tms h, r)
operand-there (ASequent i) os tys tms h r = r

pub operands-there : (os : List Operand) (tys : List (Ty Name)) (tms : List (Tm Name))
    → AreAmong (flat_map operand_nodes os) tys tms → AreIn tys tms os
operands-there [] tys tms h = tt
operands-there (o ∷ os) tys tms h =
    let r = among-split (operand_nodes o) (flat_map operand_nodes os) tys tms h in
    operand-there o os tys tms r.0 (operands-there os tys tms r.1)

-- ---- a record that makes `now` of what stands before it

-- the log with the record has the tokens that are read to `now`
pub record Takes (e : Entry) (x : Log) (now : LogState Name) : Type 0 where
  pub body : List (Token Name)
  pub tokens : (write_entry e x).tokens ≡ header.tokens ++ body
  pub reads : Reads names nothing_made body now

pub entry-takes : (e : Entry) (x : Log) (st now : LogState Name) (c : Change names)
    → Stands (write_nodes (nodes_before e) x) st
    → feed st e.operands (form names e.word) ≡ Some c → c st ≡ Ok now → Takes e x now
entry-takes e x st now c s f k =
    let before = write_nodes (nodes_before e) x in
    let (body, tokens, reads) = put-reads e before st now c s
    (operands-there e.operands before.types before.terms (nodes-has (nodes_before e) x)) f k in
    record { body = body; tokens = tokens; reads = reads }
