-- What the written article of exports does when it is run alone.
use Rattle.std.specs.Prelude.{◌≡◌, ◌↔◌, ◌≤◌, ◌<◌, ◌^◌, ℕ, Bool, List, map, length, Ok}
use Rattle.std.specs.List.{All, filter}
use Rattle.ot_logic.specs.Lists.{IsMember, AreDistinct}
use Rattle.ot_logic.specs.Names.{Name}
use Rattle.ot_scan.specs.Lines.{lines_of}
use Rattle.ot_trace.specs.Origins.{Origin}
use Rattle.ot_trace.specs.Reach.{IsReached}
use Rattle.ot_written.specs.Needed.{firsts_by, is_among, needed_definitions}
use Rattle.ot_written.specs.Written.{roots_of}
use Rattle.ot_written.specs.Uses.{IsEnough, article_by}
use Rattle.ot_written.specs.Bytes.{bytes_of}
use Rattle.ot_written.specs.Laws.{Tells}
use Rattle.ot_machine.specs.Objects.{theorem}
use Rattle.ot_machine.specs.States.{Export, Given, Made, RunState, State, no_context}
use Rattle.ot_machine.specs.Run as articles
use Rattle.ot_machine.specs.Commanded.{LeadsTo}
use Rattle.ot_machine.specs.Values.{value}
use Rattle.ot_machine.specs.Lawful.{IsAxiom, IsLawfulRun, IsLawfulExport, StatesSequent, AreApart, run_basis}
use Rattle.ot_machine.specs.Writable.{IsWritable}
use Rattle.ot_machine.specs.Marks.{fresh, IsLean}

abbrev pub origins_made : List Made → List (Origin Name)
origins_made = map (λ m. m.origin)

-- the roots of exports
abbrev pub export_roots : List Export → List (Origin Name)
export_roots es = roots_of (map (λ e. e.roots) es)

module _ (same : Origin Name → Origin Name → Bool) where
  -- the definitions whose origins the roots need, of several with one origin the first
  abbrev pub needed_made : List (Origin Name) → List Made → List Made
  needed_made roots ms = filter (λ m. is_among same m.origin (needed_definitions same roots (origins_made ms)))
      (firsts_by same (λ m. m.origin) ms)

  -- the bytes are an article of these exports, among these definitions
  pub record IsArticleOf (max : ℕ) (ms : List Made) (es : List Export) (bytes : List ℕ) : Type 0 where
    -- they run alone to their end, and export the same in the same order
    pub now : State
    pub ends : articles.run no_context (lines_of max bytes) fresh ≡ articles.Ended now
    pub exports : now.article.exports ≡ es
    -- the definitions are the needed ones in their old order
    pub definitions : now.run.definitions ≡ needed_made (export_roots es) ms
    -- the assumptions are those of the needed axioms, each once
    pub assumed : (g : Given) → IsMember g now.run.assumptions
        ↔ (IsReached (export_roots es) (origins_made ms) g.origin × IsAxiom g.origin
        × (value g.origin ≡ Ok (theorem g.sequent)))
    pub once : AreDistinct now.run.assumptions
    pub apart : AreApart (λ g. g.sequent) now.run.assumptions
    -- no two commands have one mark, and each mark is needed
    pub lean : IsLean max bytes

  -- the bytes of exports, among these definitions, where these origins are stored
  abbrev pub written_bytes : (Origin Name → Bool) → List Made → List Export → List ℕ
  written_bytes keep ms es = bytes_of (article_by same keep (origins_made ms) (map (λ e. e.roots) es)).lines

-- of lawful exports of a lawful run, in whatever way origins are stored, as long as each that is shared is
abbrev pub WrittenArticleLaw : Type 0
WrittenArticleLaw = (same : Origin Name → Origin Name → Bool) → Tells same
    → (r : RunState) (es : List Export) (keep : Origin Name → Bool) (max : ℕ)
    → IsLawfulRun IsWritable r → All (IsLawfulExport (run_basis IsWritable r)) es → All StatesSequent es
    → AreApart (λ (e : Export). e.sequent) es
    → IsEnough same (export_roots es) (origins_made r.definitions) keep
    → length (written_bytes same keep r.definitions es) ≤ max → max < 2 ^ 63
    → IsArticleOf same max r.definitions es (written_bytes same keep r.definitions es)

-- of the exports of an article that was run alone, up to any of its lines, whatever its source is
abbrev pub MinimisedLaw : Type 0
MinimisedLaw = (same : Origin Name → Origin Name → Bool) → Tells same
    → (s : State) (keep : Origin Name → Bool) (max : ℕ) → LeadsTo no_context fresh s
    → IsEnough same (export_roots s.article.exports) (origins_made s.run.definitions) keep
    → length (written_bytes same keep s.run.definitions s.article.exports) ≤ max → max < 2 ^ 63
    → IsArticleOf same max s.run.definitions s.article.exports
    (written_bytes same keep s.run.definitions s.article.exports)
