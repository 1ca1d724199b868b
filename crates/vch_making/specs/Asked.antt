-- What a call under way asks of a manager, by the parts.
use Rattle.std.specs.Prelude.{ℕ, ◌==◌, if◌then◌else◌, List, [], drop, Option, Some, None}
use Rattle.vch_base.specs.declared.commands.TheConstants as commands
use Rattle.vch_base.specs.declared.key.Key.{Key}
use Rattle.vch_base.specs.declared.key.TheConstants.{ALL_KEYS}
use Rattle.vch_base.specs.Keys.{key_of}
use Rattle.vch_recipe.specs.Recipes.{First, One, first_of}
use Rattle.vch_model.specs.declared.call.Call.{Call}
use Rattle.vch_model.specs.declared.call.Call.TheVariants as calls
use Rattle.vch_machine.specs.Making.{head_key, keys_left}
use Rattle.vch_frame.specs.Indices.{index_of}
use Rattle.vch_vouchers.specs.Desks.{Named, voucher_of}
use Rattle.vch_parts.specs.Plain.{Indices}
use Rattle.vch_making.specs.declared.question.Question.{Question}

-- the voucher that was found, else the one that is formed
abbrev pub or_formed : Option Indices → Indices → Indices
or_formed None u = u
or_formed (Some v) u = v

-- where a record takes its previous value from: the named previous voucher, else the one that is formed
abbrev pub previous_of : List Named → Indices → ℕ → Indices
previous_of names u name = if name == 0 then u else or_formed (voucher_of names name) u

abbrev pub question_at : List Named → Indices → ℕ → ℕ → Option Key → Option Question
question_at names u command previous None = None
question_at names u command previous (Some k) = Some (record { key = k; command = command; previous = index_of k (previous_of names u previous) })

-- the key that a record asks: the next of all keys, or its own where that has a manager
abbrev pub asked_key : ℕ → List Key → ℕ → Option Key
asked_key version ks key = if key == ALL_KEYS then head_key (keys_left version ks) else key_of version key

abbrev pub question_first : ℕ → List Named → List Key → Indices → First → Option Question
question_first version names ks u (One r rest) = question_at names u r.command r.previous (asked_key version ks r.key)
question_first version names ks u First.End = None
question_first version names ks u (First.HeaderCut left) = None
question_first version names ks u (First.ContentCut wanted left) = None

-- a send or a recv asks the next of its keys, with one command for all of them
abbrev pub question_next : ℕ → Indices → Option Key → Option Question
question_next command u None = None
question_next command u (Some k) = Some (record { key = k; command = command; previous = index_of k u })

abbrev pub question_by : ℕ → List Named → ℕ → List Key → Indices → Option Call → Option Question
question_by version names place ks u None = None
question_by version names place ks u (Some (calls.Create bytes)) = question_first version names ks u (first_of (drop place bytes))
question_by version names place ks u (Some (calls.Send to moving name id)) = question_next commands.SEND_PREPROCESS u (head_key ks)
question_by version names place ks u (Some calls.Recv) = question_next commands.AUTO_REDEEM u (head_key ks)
question_by version names place ks u (Some call) = None

-- the content of a record, and of what a call asks
abbrev pub content_first : First → List ℕ
content_first (One r rest) = r.content
content_first First.End = []
content_first (First.HeaderCut left) = []
content_first (First.ContentCut wanted left) = []

abbrev pub content_by : ℕ → Option Call → List ℕ
content_by place None = []
content_by place (Some (calls.Create bytes)) = content_first (first_of (drop place bytes))
content_by place (Some call) = []
