-- How the run of an article ends, and how the machine answers it.
use Rattle.std.specs.Prelude.{Result, Ok, Err, OnOk, Vec, String, string_bytes}
use Rattle.std.specs.Global.{Global}
use Rattle.std.proofs.Common.{◌≡◌, ◌∙◌, ℕ, List, map, sym, ap}
use Rattle.ot_scan.specs.Lines.{Lines}
use Rattle.ot_machine.specs.States.{State, ArticleState, Context, fresh_article}
use Rattle.ot_machine.specs.Run.{Outcome, run}
use Rattle.ot_machine.specs.Meaning.{article_of, run_of, machine_state, export_of}
use Rattle.ot_machine.specs.Answers.{Runs}
use Rattle.ot_machine.specs.declared.machine.Export.{Export}
use Rattle.ot_machine.specs.declared.machine.Machine.{Machine}
use Rattle.ot_machine.specs.declared.session.Session.{Session}
use Rattle.ot_machine.specs.declared.fault.ArticleFault.{ArticleFault}
use Rattle.ot_machine.specs.declared.fault.ArticleFault.TheVariants as article
use Rattle.ot_machine.specs.declared.fault.Fault.{Fault}
use Rattle.ot_link.specs.Stops.{answered_by}
use Rattle.ot_link.specs.Blocks.{article_end}
use Rattle.ot_link.specs.Answers.{Stops, Comes, ran_of, EndsAs}
use Rattle.ot_link.specs.declared.fault.LinkFault.TheVariants as link

-- what follows from a fact about an answer that is Ok
pub on-ok : {A E : Type 0} {P Q : Type 0} (r : Result A E) → (P → Q) → OnOk r P → OnOk r Q
on-ok (Ok x) f h = f h
on-ok (Err e) f h = tt

pub on-any : {A E : Type 0} {P : Type 0} (r : Result A E) → P → OnOk r P
on-any (Ok x) h = h
on-any (Err e) h = tt

module _ (s0 s : Session) (before after : Machine) (c : Context) (lines : Lines)
    (fresh : article_of s0 before ≡ fresh_article) where
  abbrev start : ArticleState → State
  start a = record { article = a; run = run_of s0 }

  begun : run c lines (start fresh_article) ≡ run c lines (machine_state s0 before)
  begun = ap (λ a. run c lines (start a)) (sym fresh)

  -- the exports are those of the machine
  pub article-ended : (exports : Vec Export Global)
      → Runs s.kernel (Ok tt) c lines (machine_state s0 before) (machine_state s after)
      → exports.items ≡ after.exports.items → EndsAs s (Ok exports) (run c lines (start fresh_article))
  article-ended exports h same =
      (machine_state s after, begun ∙ h, λ i. record { exports = map (export_of s) (same i); run = run_of s })

  pub article-stopped : (e : ArticleFault) → Runs s.kernel (Err e) c lines (machine_state s0 before) (machine_state s after)
      → EndsAs s (Err e) (run c lines (start fresh_article))
  article-stopped (article.At line fault) h = (machine_state s after, h.0, h.1, begun ∙ h.2)
  article-stopped article.ReadFault h = tt
  article-stopped (article.Memory memory) h = tt

-- ---- the article of a path

-- its exports are those of the stated end
pub exports-come : (path : List ℕ) (s : Session) (exports : Vec Export Global) (o : Outcome) → EndsAs s (Ok exports) o
    → Comes s.kernel (ran_of s) (Ok exports) (answered_by path (article_end path o))
exports-come path s exports o h = ap (article_end path) h.1 ∙ ap Ok (sym h.2)

-- so is its fault
pub fault-comes : (path : String Global) (s : Session) (line : ℕ) (fault : Fault) (o : Outcome)
    → EndsAs s (Err (article.At line fault)) o
    → Stops s.kernel (link.Article path line fault)
    (answered_by (string_bytes path) (article_end (string_bytes path) o))
fault-comes path s line fault o h = (h.1, h.2, ap (article_end (string_bytes path)) h.3)
