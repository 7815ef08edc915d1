-- Code as a walk goes through it: a word's type, and what follows a statement. Assumes nothing.
use mir.Syntax.{
  Ty,
  Body,
  skip,
  seq,
  assign,
  block,
  loop,
  cond,
  switch,
  exit,
  return,
  call,
  call_v,
  lend_static,
  unreachable,
  w64,
  ty_int,
}

abbrev pub word : Ty
word = ty_int w64

-- the code after the first statement
abbrev pub after : Body → Body
after skip = skip
after (seq s b) = b
after (assign d e) = skip
after (block s) = skip
after (loop s) = skip
after (cond c s u) = skip
after (switch c ss) = skip
after (exit n) = skip
after return = skip
after (call k as' d) = skip
after (call_v v t as' d) = skip
after (lend_static a b c) = skip
after unreachable = skip
