-- What the lines of a store are.
use Rattle.std.specs.Prelude.{ℕ, List, [], ◌∷◌, ◌++◌, codes}
use Rattle.json.specs.Print.{quoted}
use Rattle.serde_json.specs.Data.{Data, number, unsigned, string, object, no_members, member}
use Rattle.sno_durable.specs.declared.records.TheConstants.{FORMAT}

-- the first line: the document that the store was made of, as it was written, the format, and the limit of trials
abbrev pub origin_data : List ℕ → ℕ → Data
origin_data document trials = object (member (codes "document") (string document) (member (codes "nomyake") (number (unsigned FORMAT)) (member (codes "trials") (number (unsigned trials)) no_members)))

-- what came before: how many entries and statements, and the version that each text had
abbrev pub past_data : ℕ → ℕ → Data → Data
past_data entries statements versions =
    object (member (codes "entries") (number (unsigned entries)) (member (codes "statements") (number (unsigned statements)) (member (codes "versions") versions no_members)))

-- the first line of a store that goes on from others: the document with the texts that its first entry finds, the document that the first
-- store was made of, the format, what came before, and the limit of trials
abbrev pub later_data : List ℕ → ℕ → List ℕ → Data → Data
later_data document trials made_of past =
    object (member (codes "document") (string document) (member (codes "made_of") (string made_of) (member (codes "nomyake") (number (unsigned FORMAT))
    (member (codes "past") past (member (codes "trials") (number (unsigned trials)) no_members)))))

-- the record of an entry: the line of a client, as it came, and its reply
abbrev pub record_data : List ℕ → Data → Data
record_data line reply = object (member (codes "line") (string line) (member (codes "reply") reply no_members))

-- the same as text: the reply's text is in it as the client gets it
abbrev pub record_text : List ℕ → List ℕ → List ℕ
record_text line reply = 123 ∷ (quoted (codes "line") ++ 58 ∷ (quoted line ++ (44 ∷ (quoted (codes "reply") ++ 58 ∷ (reply ++ 125 ∷ [])))))
