-- What stands behind the word `call`: a task, a number, a command word and a reply.
use Rattle.std.specs.Prelude.{ℕ, ◌^◌, ℤ, Bool, true, false, if◌then◌else◌, List, Option, Some, None, codes}
use Rattle.vch_base.specs.declared.codes.TheConstants.{KERN_INVALID_ARGUMENT, KERN_FAILURE, KERN_RESOURCE_SHORTAGE, KERN_NO_ACCESS, KERN_INVALID_NAME, KERN_INVALID_CAPABILITY, MIG_ARRAY_TOO_LARGE, MACH_SEND_INVALID_DEST, MACH_SEND_TIMED_OUT, MACH_SEND_INVALID_VOUCHER, MACH_RCV_TIMED_OUT}
use Rattle.vch_base.specs.declared.fault.Code.{Code}
use Rattle.vch_model.specs.declared.call.Word.{Word}
use Rattle.vch_model.specs.declared.call.Word.TheVariants as words
use Rattle.vch_model.specs.declared.entry.Entry.{Entry}
use Rattle.vch_model.specs.declared.entry.Entry.TheVariants as entries
use Rattle.vch_model.specs.declared.entry.Reply.{Reply}
use Rattle.vch_model.specs.declared.entry.Reply.TheVariants as replies
use Rattle.vch_text.specs.Reading.{◌>>=◌}
use Rattle.vch_text.specs.Words.{is_word, word_at, end_of}
use Rattle.vch_report.specs.Numerals.{below_at, ordinal_at, bytes_at}

unfoldable pub verb_of : List ℕ → Option Word
verb_of w =
    if is_word w (codes "create") then Some words.Create
    else if is_word w (codes "drop") then Some words.GiveUp
    else if is_word w (codes "extract") then Some words.Extract
    else if is_word w (codes "recipes") then Some words.Recipes
    else if is_word w (codes "send") then Some words.Send
    else if is_word w (codes "recv") then Some words.Recv
    else if is_word w (codes "extern") then Some words.Extern
    else if is_word w (codes "charge") then Some words.Charge
    else if is_word w (codes "ledger") then Some words.Ledger
    else if is_word w (codes "assertions") then Some words.Assertions
    else if is_word w (codes "live") then Some words.Live
    else if is_word w (codes "exit") then Some words.Exit
    else None

abbrev pub coded : ℤ → Option Code
coded number = Some (record { number = number })

-- the code of a refusal
unfoldable pub code_of : List ℕ → Option Code
code_of w =
    if is_word w (codes "4") then coded KERN_INVALID_ARGUMENT
    else if is_word w (codes "5") then coded KERN_FAILURE
    else if is_word w (codes "6") then coded KERN_RESOURCE_SHORTAGE
    else if is_word w (codes "8") then coded KERN_NO_ACCESS
    else if is_word w (codes "15") then coded KERN_INVALID_NAME
    else if is_word w (codes "20") then coded KERN_INVALID_CAPABILITY
    else if is_word w (codes "-307") then coded MIG_ARRAY_TOO_LARGE
    else if is_word w (codes "268435459") then coded MACH_SEND_INVALID_DEST
    else if is_word w (codes "268435460") then coded MACH_SEND_TIMED_OUT
    else if is_word w (codes "268435461") then coded MACH_SEND_INVALID_VOUCHER
    else if is_word w (codes "268451843") then coded MACH_RCV_TIMED_OUT
    else None

unfoldable pub created_of : List ℕ → Option Reply
created_of rest = do
  a ← below_at (2 ^ 32) rest
  done ← end_of a.1
  Some (replies.Created a.0)

unfoldable pub done_of : List ℕ → Option Reply
done_of rest = do
  done ← end_of rest
  Some replies.Done

unfoldable pub content_of : List ℕ → Option Reply
content_of rest = do
  bytes ← bytes_at rest
  Some (replies.Content bytes)

-- whether a recipe is whole
unfoldable pub mark_of : List ℕ → Option Bool
mark_of w =
    if is_word w (codes "whole") then Some true
    else if is_word w (codes "part") then Some false
    else None

unfoldable pub recipe_of : List ℕ → Option Reply
recipe_of rest = do
  w ← word_at rest
  mark ← mark_of w.0
  bytes ← bytes_at w.1
  Some (replies.Recipe mark bytes)

unfoldable pub received_of : List ℕ → Option Reply
received_of rest = do
  a ← below_at (2 ^ 32) rest
  b ← below_at (2 ^ 32) a.1
  c ← below_at (2 ^ 32) b.1
  done ← end_of c.1
  Some (replies.Received a.0 b.0 c.0)

unfoldable pub ledger_of : List ℕ → Option Reply
ledger_of rest = do
  a ← below_at (2 ^ 128) rest
  done ← end_of a.1
  Some (replies.Ledger a.0)

unfoldable pub assertions_of : List ℕ → Option Reply
assertions_of rest = do
  a ← below_at (2 ^ 128) rest
  b ← below_at (2 ^ 128) a.1
  done ← end_of b.1
  Some (replies.Assertions a.0 b.0)

unfoldable pub live_of : List ℕ → Option Reply
live_of rest = do
  a ← below_at (2 ^ 64) rest
  b ← below_at (2 ^ 64) a.1
  done ← end_of b.1
  Some (replies.Live a.0 b.0)

-- what stands behind the code 0
abbrev pub answer_of : Word → List ℕ → Option Reply
answer_of words.Create rest = created_of rest
answer_of words.GiveUp rest = done_of rest
answer_of words.Extract rest = content_of rest
answer_of words.Recipes rest = recipe_of rest
answer_of words.Send rest = done_of rest
answer_of words.Recv rest = received_of rest
answer_of words.Extern rest = done_of rest
answer_of words.Charge rest = done_of rest
answer_of words.Ledger rest = ledger_of rest
answer_of words.Assertions rest = assertions_of rest
answer_of words.Live rest = live_of rest
answer_of words.Exit rest = done_of rest

-- a code that stands alone
unfoldable pub refused_of : List ℕ → List ℕ → Option Reply
refused_of w rest = do
  done ← end_of rest
  code ← code_of w
  Some (replies.Refused code)

unfoldable pub reply_of : Word → List ℕ → Option Reply
reply_of word rest = do
  w ← word_at rest
  if is_word w.0 (codes "0") then answer_of word w.1 else refused_of w.0 w.1

-- a task, the number of its call and the command word, and what is left
unfoldable pub called_of : List ℕ → Option (ℕ × ℕ × Word × List ℕ)
called_of rest = do
  t ← ordinal_at rest
  n ← ordinal_at t.1
  w ← word_at n.1
  word ← verb_of w.0
  Some (t.0, n.0, word, w.1)

unfoldable pub call_of : List ℕ → Option Entry
call_of rest = do
  x ← called_of rest
  reply ← reply_of x.2 x.3
  Some (entries.Call x.0 x.1 x.2 reply)
