-- What a line asks of a desk, whose numbers begin at 0, if its own numbers go on from what came before.
use Rattle.std.specs.Prelude.{◌≡◌, ◌-◌, ℕ, List, Option, Some, None, codes, nat_lt, if◌then◌else◌}
use Rattle.serde_json.specs.Data.{Data, number, string, unsigned, no_members, member}
use Rattle.sno_book.specs.Entries.{Entry}
use Rattle.sno_book.specs.Openings.{Opening}
use Rattle.sno_listing.specs.declared.refusals.Refusal.{Refusal}
use Rattle.sno_serve.specs.Replies.{IsReplied, with_id}
use Rattle.sno_serve.specs.declared.asked.Asked.{Asked}
use Rattle.sno_serve.specs.declared.asked.Asked.TheVariants as asks
use Rattle.sno_serve.specs.declared.excerpt.Excerpt.{Excerpt}
use Rattle.sno_durable.specs.Past.{lower, shown, version_of}

-- the entries that are asked for, by the desk's own indices
abbrev pub excerpt_here : ℕ → Excerpt → Excerpt
excerpt_here entries e = record { from = e.from - entries; limit = e.limit; name = e.name }

-- what is asked of the desk, about a text that had this version before; nothing if it is for entries from before its first one
abbrev pub asked_here : ℕ → ℕ → Asked → Option Asked
asked_here entries before (asks.Perform s) = Some (asks.Perform s)
asked_here entries before (asks.PerformAt s version) = Some (asks.PerformAt s (lower before version))
asked_here entries before (asks.Check s) = Some (asks.Check s)
asked_here entries before (asks.Read name) = Some (asks.Read name)
asked_here entries before (asks.ReadAt name version) = Some (asks.ReadAt name (lower before version))
asked_here entries before asks.Texts = Some asks.Texts
asked_here entries before (asks.Since e) = if nat_lt e.from entries then None else Some (asks.Since (excerpt_here entries e))
asked_here entries before (asks.Fault fault) = Some (asks.Fault fault)

-- the name of the text that the line is about, if it is about one
abbrev pub name_asked : Asked → Option (List ℕ)
name_asked (asks.Perform s) = Some s.text
name_asked (asks.PerformAt s version) = Some s.text
name_asked (asks.Check s) = Some s.text
name_asked (asks.Read name) = Some name
name_asked (asks.ReadAt name version) = Some name
name_asked asks.Texts = None
name_asked (asks.Since e) = None
name_asked (asks.Fault fault) = None

-- the reply to a line that asks for entries from before the first one that is left: the index of that
abbrev pub gone_reply : Option Data → ℕ → Data
gone_reply id entries = with_id id (member (codes "first") (number (unsigned entries)) (member (codes "reason") (string (codes "compacted")) no_members))

-- the desk's reply to what was asked of it, as a client is shown it
pub record IsShown (entries : ℕ) (versions : Data) (version : ℕ) (tries : ℕ) (opening : Opening) (before after : List Entry) (id : Option Data) (asked : Asked) (d : Data)
    (refused : Option Refusal) : Type 0 where
  pub reply : Data
  pub replied : IsReplied tries opening before after id asked reply refused
  pub same : d ≡ shown entries versions version reply

abbrev pub IsRepliedHere : ℕ → Data → ℕ → ℕ → Opening → List Entry → List Entry → Option Data → Option Asked → Data → Option Refusal → Type 0
IsRepliedHere entries versions version tries opening before after id None d refused = (d ≡ gone_reply id entries) × (refused ≡ None)
IsRepliedHere entries versions version tries opening before after id (Some asked) d refused = IsShown entries versions version tries opening before after id asked d refused

-- the reply to a line whose numbers go on from what came before
abbrev pub IsRepliedOn : ℕ → Data → ℕ → Opening → List Entry → List Entry → Option Data → Asked → Data → Option Refusal → Type 0
IsRepliedOn entries versions tries opening before after id asked d refused =
    IsRepliedHere entries versions (version_of versions (name_asked asked)) tries opening before after id (asked_here entries (version_of versions (name_asked asked)) asked) d refused
