pub mod RootNotes
pub mod RootParts
