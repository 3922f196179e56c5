-- What a reply says, as data.
use Rattle.std.specs.Prelude.{◌≡◌, ℕ, List, [], ◌∷◌, map, Option, Some, None, codes, string_bytes}
use Rattle.std.specs.Option.{option_map}
use Rattle.json.specs.Token.{Token, key}
use Rattle.serde_json.specs.Data.{Data, number, string, unsigned}
use Rattle.serde_json.specs.View.{view}
use Rattle.sno_book.specs.Proposals.{Receipt}
use Rattle.sno_listing.specs.JsonListing.{done_members}
use Rattle.sno_listing.specs.Tokens.{data_tokens}
use Rattle.sno_serve.specs.Excerpts.{rows_of, up_to}
use Rattle.sno_serve.specs.Replies.{since_reply, with_id}
use Rattle.sno_serve.specs.declared.content.Content.{Content}
use Rattle.sno_serve.specs.declared.content.Content.TheVariants as says
use Rattle.sno_serve.specs.declared.content.Id.{Id}
use Rattle.sno_serve.specs.declared.content.Id.TheVariants as id
use Rattle.sno_serve.specs.declared.listed.Listed.{Listed}

-- a caller's id
abbrev pub id_data : Id → Data
id_data (id.Text s) = string (string_bytes s)
id_data (id.Whole n) = number (unsigned n)

-- an id as a member, if there is one
abbrev pub id_tokens : Option Data → List Token
id_tokens None = []
id_tokens (Some d) = key (codes "id") ∷ data_tokens d

-- the rows that an excerpt wants of some entries
abbrev pub listed_rows : Listed → List Data
listed_rows l = up_to l.excerpt.limit (rows_of l.excerpt.name l.from l.entries.items)

-- the reply to a statement that was accepted
abbrev pub entry_reply : Option Data → Receipt → Data
entry_reply d receipt = with_id d (done_members receipt.index receipt.entry receipt.entry.outcome)

-- what a reply says
abbrev pub content_data : Content → Data
content_data (says.Value v) = view v
content_data (says.Entry i receipt) = entry_reply (option_map id_data i) receipt
content_data (says.Entries i listed) = since_reply (option_map id_data i) (listed_rows listed)
